pub mod Events
pub mod Many
pub mod Turns
