pub mod Showing
pub mod Eighths
pub mod Keeping
pub mod Unique
pub mod EndingText
