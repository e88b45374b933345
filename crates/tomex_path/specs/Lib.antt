-- The definitions that contracts cite: what holds the events of a step, the path of a run, its laws, what it bounds,
-- what the walk sees of a step, and within what its links are.
pub mod Holds
pub mod Path
pub mod Laws
pub mod Bound
pub mod Seen
pub mod Within
