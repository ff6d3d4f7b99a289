pub mod KnownPlaces
pub mod FromRoot
pub mod CountedInFile
pub mod BenchPlaces
