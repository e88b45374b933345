-- What is known of a run while it is evaluated.
pub mod Places
pub mod Kept
pub mod Known
