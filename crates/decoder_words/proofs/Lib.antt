pub mod Bounds
pub mod Refusing
pub mod Answered
pub mod Words
pub mod Unique
pub mod Examples
