pub mod WordCalls
