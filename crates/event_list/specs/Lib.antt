pub mod Line
pub mod Reading
pub mod Whole
pub mod Computed
pub mod Run
