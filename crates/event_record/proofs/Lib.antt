pub mod Civil
pub mod Midnight
pub mod Lengths
