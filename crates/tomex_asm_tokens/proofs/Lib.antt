-- Lemmas of the crate.
pub mod Ends
pub mod BareBytes
pub mod Lines
pub mod Capped
pub mod Rows
mod Meant
