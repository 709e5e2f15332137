pub mod ZoneMasks
pub mod Operate
pub mod NumberedOperate
pub mod KeptTimers
