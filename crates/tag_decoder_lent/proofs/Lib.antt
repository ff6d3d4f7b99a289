pub mod Carried
pub mod RuledOut
pub mod Unique
