pub mod SlideLemmas
pub mod WindowLanes
pub mod WindowLemmas
