pub mod Lists
pub mod Least
pub mod Unique
