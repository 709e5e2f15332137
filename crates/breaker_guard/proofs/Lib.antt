pub mod SpanLemmas
pub mod StepLemmas
pub mod BurstLemmas
pub mod GuardLemmas
