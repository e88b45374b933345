-- Definitions that contracts cite, in the order in which to read them.
pub mod Assembled
pub mod Found
pub mod File
pub mod Named
