pub mod Ended
pub mod Watched
pub mod Records
pub mod Rows
pub mod Loops
mod Flagged
mod Lines
mod OnHull
mod StepRecords
