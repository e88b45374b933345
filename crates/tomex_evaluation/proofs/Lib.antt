-- Lemmas of this crate.
pub mod Asked
pub mod Row
pub mod Again
pub mod Shown
pub mod Keeping
pub mod Numbered
pub mod Turns
pub mod Arrivals
