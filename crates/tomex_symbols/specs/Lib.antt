-- Definitions that contracts cite: the symbols of an ELF file, and which of them has an address.
pub mod Sections
pub mod Symbols
pub mod Names
pub mod Functions
pub mod Sweep
