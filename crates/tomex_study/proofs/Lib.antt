-- Lemmas of this crate.
pub mod Bounds
pub mod Each
pub mod Filtering
pub mod Rows
pub mod SameCycles
pub mod Selection
pub mod SomeCycles
pub mod StudyFronts
