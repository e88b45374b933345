pub mod Configuration
pub mod Parts
pub mod Settings
pub mod Cost
pub mod PartPrices
pub mod Grid
pub mod Vary
