pub mod Older
pub mod Stores
