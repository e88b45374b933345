-- Lemmas of this crate.
pub mod Masks
pub mod Alike
pub mod Noted
pub mod Made
pub mod SameBlocks
pub mod ComesBack
mod Rows
