pub mod StayAccepted
pub mod AsByValue
pub mod OneByOne
