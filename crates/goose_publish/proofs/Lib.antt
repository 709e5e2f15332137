pub mod ChangeLemmas
pub mod FrameLemmas
pub mod OffsetLemmas
pub mod PassedOffsets
pub mod ScheduleLemmas
