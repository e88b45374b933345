-- Lemmas of this crate.
pub mod Above
pub mod Falling
pub mod Reached
pub mod SameFloors
pub mod Touching
pub mod Turns
mod Rows
