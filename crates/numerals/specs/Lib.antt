pub mod Numeral
pub mod Puts
