pub mod Owners
pub mod Banks
pub mod KeptBank
pub mod LastNumbers
