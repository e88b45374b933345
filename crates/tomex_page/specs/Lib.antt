-- The page of a study's report.
pub mod Constants
pub mod Runs
pub mod Bars
pub mod Stalls
pub mod Charts
pub mod Page
pub mod Laws
