pub mod RefusalLines
pub mod LineLaws
pub mod LineReadings
