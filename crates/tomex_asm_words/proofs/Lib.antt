-- Lemmas of the crate.
pub mod Spelt
pub mod Listing
