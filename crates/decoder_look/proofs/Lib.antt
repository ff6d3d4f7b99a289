pub mod Shown
pub mod LeastEnd
pub mod OnePass
pub mod Unique
pub mod GoodEnds
