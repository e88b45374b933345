-- Lemmas of this crate.
pub mod FinishedRows
pub mod Gathered
pub mod Judged
pub mod Verdicts
pub mod Moves
pub mod Crewed
pub mod Machines
