-- Lemmas of the crate.
pub mod Cut
pub mod Indexes
pub mod CallTurns
pub mod RowsOrder
pub mod Listings
pub mod Texts
pub mod RowSums
pub mod CallSums
pub mod ChangesOrder
pub mod Adding
pub mod Names
pub mod ChangesRows
pub mod Columns
pub mod Listed
pub mod Reports
pub mod AddUp
pub mod OfSteps
pub mod CallsOf
pub mod ByName
pub mod Once
mod Worked
