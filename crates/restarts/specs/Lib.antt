pub mod Comparing
pub mod Runs
pub mod Restored
pub mod Since
pub mod Restarts
