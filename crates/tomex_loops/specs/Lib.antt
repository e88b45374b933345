-- The definitions that contracts cite: how a run reaches each step, its loops, their visits and rounds, and the code's
-- own words.
pub mod Calls
pub mod Loops
pub mod Visits
pub mod Walking
pub mod Runs
pub mod Places
pub mod Ways
pub mod Jumps
pub mod Sound
pub mod Rounds
pub mod Pattern
pub mod Nest
