-- Definitions that contracts cite: workers and what they must return, marks of rows, and explorations.
pub mod Crews
pub mod Marks
pub mod Finished
pub mod Exploration
