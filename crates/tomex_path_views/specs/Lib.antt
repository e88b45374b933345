-- What contracts cite: the four reports of a run's path.
pub mod Shares
pub mod ByReason
pub mod ByLink
pub mod Charges
pub mod ByPlace
pub mod ByFunction
