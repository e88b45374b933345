-- Definitions that contracts cite, in the order in which to read them.
pub mod Positions
pub mod Places
pub mod Kept
