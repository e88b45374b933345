-- Lemmas of this crate.
mod Chosen
mod Programs
mod Signed
