pub mod Konata
pub mod Kept
