-- Lemmas of this crate.
pub mod Closing
