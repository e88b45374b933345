pub mod Axes
pub mod Plot
pub mod FrontTable
pub mod Dots
pub mod RowsPlot
pub mod LinkedPlot
