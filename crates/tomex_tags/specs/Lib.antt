pub mod Places
pub mod Operands
pub mod Contents
pub mod WaitSets
pub mod Pools
pub mod Registers
pub mod Listeners
