pub mod States
pub mod Reuse
