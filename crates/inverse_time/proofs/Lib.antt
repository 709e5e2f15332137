pub mod RootLemmas
pub mod PhaseLemmas
pub mod BackupLemmas
