-- Lemmas of this crate.
pub mod Reweighing
pub mod Within
pub mod FrontFirst
pub mod Whole
pub mod Irrelevant
pub mod SmallRows
pub mod Places
pub mod Listing
pub mod Coming
pub mod Recycled
pub mod Percentage
pub mod Together
pub mod Differences
pub mod AnyMix
pub mod TableRows
mod Turns
mod Worked
