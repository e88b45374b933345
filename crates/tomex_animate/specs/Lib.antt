pub mod Constants
pub mod Machine
pub mod Page
pub mod Stretch
pub mod Laws
