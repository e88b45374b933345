-- What the proofs of the crate share.
pub mod Sums
pub mod Bounds
mod Signs
mod Visits
mod Reports
