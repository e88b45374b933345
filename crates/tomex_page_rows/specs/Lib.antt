-- The tables of a row of the front.
pub mod Parts
pub mod Changed
pub mod Stays
pub mod Lists
pub mod Sentence
pub mod Additions
