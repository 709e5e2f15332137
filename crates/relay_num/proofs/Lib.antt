pub mod Signed
pub mod Ring
pub mod Wide
pub mod WaveLemmas
pub mod WeightedSumLaws
mod Digits
