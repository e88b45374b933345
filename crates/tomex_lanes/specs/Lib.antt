-- Definitions that contracts cite: the rows of a worker, lanes, and the rule of a deque of rows.
pub mod Rows
pub mod Lanes
pub mod Rule
pub mod Parts
