pub mod Fields
pub mod GoodHeaders
pub mod SettledView
pub mod Unique
