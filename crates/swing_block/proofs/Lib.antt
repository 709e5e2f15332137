mod SwingLemmas
pub mod NumberedSwingLemmas
