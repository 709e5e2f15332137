pub mod Fusing
pub mod KeptFuse
pub mod NumberedFuse
pub mod Load
pub mod Current
