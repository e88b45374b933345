-- Lemmas of this crate.
pub mod Rows
mod Columns
mod Shown
mod Turns
