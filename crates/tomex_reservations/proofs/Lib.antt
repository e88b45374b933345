pub mod Searching
pub mod Reserving
pub mod FreeStations
