pub mod Exact
pub mod Latest
pub mod Ahead
pub mod Settled
pub mod Nothing
pub mod Windows
pub mod Steps
pub mod Alike
pub mod UnderWay
pub mod Later
pub mod Moved
pub mod Bounds
pub mod Histories
mod Rows
