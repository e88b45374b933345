-- Lemmas of this crate.
mod Steps
