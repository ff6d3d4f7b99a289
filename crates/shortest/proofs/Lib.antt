pub mod Least
pub mod Alone
pub mod Reading
pub mod Shortest
pub mod Examples
