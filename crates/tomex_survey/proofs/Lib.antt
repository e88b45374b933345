-- Lemmas of this crate.
pub mod Neighbours
pub mod Weighing
pub mod Oks
pub mod Leasts
pub mod FloorSums
pub mod FloorBounds
