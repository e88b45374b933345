pub mod Asked
pub mod Grammar
pub mod Limits
pub mod Names
pub mod Values
