-- Lemmas of the crate.
pub mod Files
