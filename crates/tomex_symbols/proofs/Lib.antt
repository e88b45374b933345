-- Lemmas of the crate.
pub mod Entries
pub mod Strings
pub mod Rising
pub mod Best
pub mod Swept
pub mod Rows
