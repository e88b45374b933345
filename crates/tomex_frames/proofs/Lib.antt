-- Lemmas of this crate, and a worked run.
mod Counts
mod Placed
mod Sums
mod Views
mod Waits
pub mod AtCycle
mod PathRows
mod PathWaits
mod Framed
mod PathWords
mod Rows
mod ShownRegisters
mod ValueResults
