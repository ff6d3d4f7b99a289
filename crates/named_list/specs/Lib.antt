pub mod Words
pub mod Meaning
pub mod Floats
pub mod Seen
pub mod Named
