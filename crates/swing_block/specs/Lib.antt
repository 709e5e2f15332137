pub mod Blinders
pub mod Swinging
pub mod KeptSwing
pub mod NumberedSwing
