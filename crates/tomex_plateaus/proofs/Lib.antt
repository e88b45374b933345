-- Lemmas of this crate.
pub mod Implied
pub mod Comparing
pub mod Keeping
pub mod Finding
pub mod Totals
pub mod Looking
pub mod Knowing
pub mod Reaching
