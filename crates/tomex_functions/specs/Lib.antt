-- What contracts cite: names of functions as they are shown, the functions of a run's steps, and the reports with them.
pub mod ShownNames
pub mod Functions
pub mod Calls
pub mod ByFunction
pub mod ByPlace
pub mod WithFunctions
pub mod Kept
pub mod Laws
pub mod Shares
pub mod Changes
pub mod WithSymbols
pub mod ChangesKept
pub mod ChangeLaws
