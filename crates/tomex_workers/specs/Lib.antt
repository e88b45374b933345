-- Definitions that contracts cite: the plan of a study's board, and a worker's seat over time.
pub mod Plans
pub mod Seats
