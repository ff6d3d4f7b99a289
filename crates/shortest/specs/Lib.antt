pub mod Says
pub mod Shortest
