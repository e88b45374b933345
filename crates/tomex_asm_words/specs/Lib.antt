-- Definitions that contracts cite, in the order in which to read them.
pub mod Spelling
pub mod Immediates
pub mod Words
pub mod Outputs
