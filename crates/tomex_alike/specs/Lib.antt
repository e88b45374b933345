-- Histories that look alike, and the laws on them.
pub mod Alike
pub mod Laws
