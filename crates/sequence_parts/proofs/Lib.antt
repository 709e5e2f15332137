pub mod SequenceLemmas
