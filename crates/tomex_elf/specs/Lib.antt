-- Definitions that contracts cite.
pub mod File
