pub mod Settling
pub mod AppendedBytes
pub mod Missing
pub mod StillAsks
pub mod Finishing
pub mod EofAsDecoded
pub mod Nearer
