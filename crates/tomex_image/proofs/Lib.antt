-- Lemmas of the crate, and worked files.
pub mod Refusals
pub mod Placing
pub mod Apart
pub mod Standing
pub mod Rows
