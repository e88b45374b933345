-- Lemmas of this crate.
pub mod From
pub mod Whole
pub mod Cycles
pub mod Turns
pub mod Walking
pub mod Keyed
pub mod Ages
pub mod Totals
mod Rows
