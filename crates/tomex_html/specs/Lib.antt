pub mod Constants
pub mod Html
pub mod Tables
pub mod Laws
