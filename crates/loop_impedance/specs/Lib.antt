pub mod Loops
pub mod LoopLanes
pub mod Masks
pub mod MaskLaws
