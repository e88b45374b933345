pub mod Files
pub mod Sinks
pub mod Progress
