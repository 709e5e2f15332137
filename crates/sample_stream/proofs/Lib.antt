pub mod Congruence
pub mod Follows
pub mod SampleLemmas
