-- Lemmas of this crate.
pub mod Arounds
pub mod Grouping
pub mod Longer
pub mod Sofar
pub mod Spanned
pub mod Chains
pub mod Joining
pub mod SpansBy
pub mod GroupsBy
pub mod Each
pub mod Repeating
pub mod TurnsBy
pub mod Outside
