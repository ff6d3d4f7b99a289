pub mod Words
pub mod Refusals
pub mod Check
pub mod Block
pub mod Writing
pub mod Layout1
pub mod Places
