pub mod LoopLemmas
pub mod MaskLemmas
