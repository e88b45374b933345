pub mod Pairs
pub mod Programs
mod Outlines
pub mod Options
pub mod Gridded
pub mod Counted
pub mod Studies
