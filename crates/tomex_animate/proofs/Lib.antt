pub mod Histories
pub mod Whole
pub mod Pages
pub mod Runs
pub mod Linked
