pub mod Ended
pub mod Walk
pub mod Rfc8794
