-- Lemmas of the crate.
pub mod Lines
pub mod Noting
pub mod Entries
pub mod Joined
pub mod Made
