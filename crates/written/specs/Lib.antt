pub mod Cut
pub mod Sizes
pub mod Pieces
pub mod Places
pub mod Whole
