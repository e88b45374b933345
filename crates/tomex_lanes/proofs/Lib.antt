-- Lemmas of this crate.
mod Steps
pub mod Dealing
pub mod Settling
pub mod Seating
