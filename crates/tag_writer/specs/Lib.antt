pub mod Document
pub mod Items
pub mod Write
pub mod Refusals
pub mod Counts
pub mod ReadBack
pub mod Sizing
pub mod Flat
