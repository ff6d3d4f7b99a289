pub mod Applies
pub mod Answers
