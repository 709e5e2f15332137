pub mod Sliding
pub mod Window
