pub mod Numbers
pub mod Checks
pub mod Writing
pub mod Decoding
