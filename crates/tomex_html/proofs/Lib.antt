mod Ids
pub mod Plain
mod Rows
