pub mod Polarising
pub mod NumberedPolarising
pub mod KeptMemory
