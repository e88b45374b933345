-- Lemmas of this crate.
mod FoundColumns
mod FoundLoops
