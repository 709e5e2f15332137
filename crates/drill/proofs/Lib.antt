pub mod SlotLemmas
pub mod CountLemmas
pub mod FrameLemmas
pub mod SettingsLemmas
