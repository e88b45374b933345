pub mod Entries
pub mod Takers
pub mod Kept
