pub mod OlderLemmas
pub mod SealLemmas
pub mod KeptTripLemmas
pub mod NumberedTripLemmas
