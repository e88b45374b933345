-- Lemmas of this crate.
pub mod Best
pub mod Chosen
pub mod Ends
pub mod Mixes
pub mod OnFront
pub mod OnHull
pub mod Pareto
pub mod Passes
pub mod Rates
pub mod Rows
pub mod SortedRows
pub mod Sums
mod Worked
pub mod Worths
pub mod Lines
pub mod OneRival
pub mod Swapped
pub mod AllRivals
pub mod SpanEnds
pub mod EqualTimes
pub mod NewCosts
pub mod Parts
pub mod Factors
pub mod Shares
pub mod Settled
