pub mod Picks
pub mod Wheel
pub mod Sets
