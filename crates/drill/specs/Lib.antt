pub mod DrawnWords
pub mod Slots
pub mod DrillSignal
pub mod DrillFrame
pub mod PlannedFrames
pub mod PlanLeft
pub mod DrillSettings
pub mod DrillText
