pub mod Place
pub mod Readings
pub mod Table
pub mod Numbers
pub mod Lists
