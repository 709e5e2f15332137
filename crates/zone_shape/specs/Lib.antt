pub mod LoopBounds
pub mod Polarising
pub mod Shapes
pub mod ZoneParts
