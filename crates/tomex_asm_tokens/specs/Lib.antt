-- Definitions that contracts cite, from a text to its tokens, in the order in which to read them.
pub mod Characters
pub mod Bare
pub mod Tokens
pub mod Strings
pub mod Registers
pub mod Reading
