pub mod Mimic
