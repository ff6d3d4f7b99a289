pub mod Unique
