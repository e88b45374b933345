pub mod Items
pub mod Outcomes
pub mod Within
