pub mod Numbers
pub mod Moments
pub mod Channels
pub mod Configurations
pub mod Rows
pub mod Pairs
