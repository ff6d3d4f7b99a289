pub mod Checking
pub mod Line
pub mod Night
pub mod Numbers
