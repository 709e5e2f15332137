pub mod Seal
pub mod Takes
pub mod NumberedTrip
pub mod KeptTrip
