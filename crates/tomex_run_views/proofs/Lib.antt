pub mod Written
pub mod SumsOfPlaces
pub mod Gaps
pub mod Cycles
pub mod Tallies
pub mod Reports
pub mod Excerpts
pub mod Pictures
mod Rows
