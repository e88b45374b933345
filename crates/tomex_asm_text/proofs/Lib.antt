-- Lemmas of the crate.
pub mod Sizes
pub mod Rows
