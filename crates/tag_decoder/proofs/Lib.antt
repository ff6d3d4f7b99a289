pub mod Recovering
pub mod CallLaws
pub mod Unique
