pub mod Sorting
pub mod NoLines
pub mod Moments
pub mod Written
pub mod Steps
pub mod Bounds
pub mod Turns
mod KonataRows
