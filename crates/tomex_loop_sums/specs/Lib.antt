-- The definitions that contracts cite: items by key, the longest visit of each loop, sums over visits, from where to
-- where a loop's steps are, the loop around it, and what is known of its rounds and steps.
pub mod Around
pub mod Groups
pub mod Longest
pub mod Spans
pub mod Extents
pub mod ByLoop
pub mod OfLoop
pub mod Columns
