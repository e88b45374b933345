-- The definitions that contracts cite: the floor of a stretch, each step's part of it and of the run's cycles, their
-- laws, the evaluator's record, and accounts by key.
pub mod Stretch
pub mod Cycles
pub mod Laws
pub mod Kept
pub mod Accounts
