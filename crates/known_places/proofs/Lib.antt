pub mod Placed
pub mod KnownPlaces
pub mod FromRoot
pub mod CountedInFile
pub mod BenchPlaces
pub mod Examples
pub mod Sixteen
