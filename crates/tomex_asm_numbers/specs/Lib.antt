-- Definitions that contracts cite, in the order in which to read them.
pub mod Numbers
pub mod Table
pub mod Values
pub mod Indexed
