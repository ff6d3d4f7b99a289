pub mod Refusals
pub mod Header
pub mod Missing
pub mod Payload
