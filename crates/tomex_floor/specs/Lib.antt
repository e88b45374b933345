-- The definitions that contracts cite: the floor of a run, its laws, the evaluator's record, and
-- floors that are known.
pub mod Floor
pub mod Laws
pub mod Kept
pub mod Flooring
