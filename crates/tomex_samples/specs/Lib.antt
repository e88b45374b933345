-- The definitions that contracts cite: the stretches of a run, those that stand for the others, the parts, and what the
-- code keeps.
pub mod Numbers
pub mod Stretches
pub mod Leaders
pub mod Groups
pub mod Parts
pub mod Uses
pub mod Counts
pub mod Ends
pub mod Tally
pub mod Tallied
pub mod Distances
pub mod Near
pub mod Weighable
pub mod PartsCsv
