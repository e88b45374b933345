-- Definitions that contracts cite: plateaus, which of them are kept, and their laws.
pub mod Plateaus
pub mod Kept
pub mod Laws
pub mod Looks
pub mod Knowledge
