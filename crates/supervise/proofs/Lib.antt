mod FuseLemmas
pub mod NumberedFuseLemmas
