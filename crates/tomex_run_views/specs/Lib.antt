pub mod StallsReport
pub mod ByPlace
pub mod Tally
pub mod Drain
pub mod Laws
pub mod Excerpt
pub mod Chart
