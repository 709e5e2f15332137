pub mod Torques
