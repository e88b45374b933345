-- Lemmas of this crate.
pub mod Shift
pub mod Issue
pub mod Accesses
pub mod Start
pub mod Next
pub mod Notes
pub mod Totals
pub mod Blocks
pub mod Runs
pub mod Same
pub mod UpToEnd
mod Rows
