-- The blocks of a run, a law on them, and the code's own words.
pub mod Blocks
pub mod Laws
pub mod Masks
