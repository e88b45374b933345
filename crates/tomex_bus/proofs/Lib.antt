pub mod Listings
pub mod Picking
pub mod Turning
mod Rows
pub mod Powers
pub mod Bits
pub mod Members
pub mod Split
pub mod Counting
