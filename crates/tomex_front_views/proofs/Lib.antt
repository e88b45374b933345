mod Tables
pub mod Loops
mod Ticks
mod Rows
mod Strokes
mod Dotted
mod Hulls
