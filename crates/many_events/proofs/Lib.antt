pub mod Calling
pub mod Turns
pub mod Ends
pub mod Passing
pub mod Tidy
pub mod Many
pub mod Unique
pub mod Examples
