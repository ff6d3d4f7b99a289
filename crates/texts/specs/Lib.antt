pub mod Ascii
pub mod Out
