-- Lemmas of this crate.
pub mod PathKeys
pub mod RowsOrder
pub mod Insertion
pub mod Saving
pub mod AddingUp
pub mod AtHeads
pub mod Adding
pub mod LoopLines
pub mod OneMore
