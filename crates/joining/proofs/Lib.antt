pub mod Runs
pub mod Joining
pub mod Results
pub mod Words
pub mod Programs
pub mod Examples
