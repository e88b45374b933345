-- Lemmas of this crate.
pub mod Placed
mod Commas
mod Members
mod Naming
mod Numbers
mod PricesCells
mod TwoBuilds
mod Unviewed
