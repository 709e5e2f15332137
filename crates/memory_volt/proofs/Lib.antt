pub mod CycleLemmas
pub mod MemoryLemmas
pub mod SizeLemmas
pub mod NumberedLemmas
