pub mod WideLemmas
pub mod LookbackLemmas
pub mod CurrentLemmas
pub mod RunLemmas
pub mod WaitingLemmas
pub mod EventLemmas
pub mod LocatorLemmas
