pub mod Table
pub mod Shape
pub mod Check
pub mod Passed
pub mod BenchTable
