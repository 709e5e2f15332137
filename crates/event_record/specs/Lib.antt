pub mod Time
pub mod Line
pub mod Printable
