-- The tables of a study's report as a page.
pub mod Pieces
pub mod Shown
pub mod Asked
pub mod Front
pub mod Laws
pub mod Steps
