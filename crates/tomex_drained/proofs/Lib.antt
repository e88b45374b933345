-- Lemmas of this crate.
pub mod Joined
pub mod Facts
pub mod Drained
pub mod Order
pub mod Pairs
pub mod Prologue
pub mod Machines
pub mod Walked
pub mod Whole
mod Worked
