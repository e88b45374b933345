pub mod Addresses
pub mod Order
