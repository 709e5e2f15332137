pub mod Times
pub mod Settings
pub mod Ranges
