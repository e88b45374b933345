-- Lemmas of the crate.
pub mod Index
pub mod Wrapping
