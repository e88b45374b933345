-- What contracts cite: the stretches of rows that workers handle, and floors.
pub mod Stretches
pub mod Extremes
pub mod Floors
