pub mod Digits
pub mod Putting
pub mod ReadBack
pub mod Unique
