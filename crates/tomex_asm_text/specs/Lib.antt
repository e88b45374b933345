-- Definitions that contracts cite, from tokens to statements, in the order in which to read them.
pub mod Values
pub mod Statement
pub mod Mnemonics
pub mod Instructions
pub mod Directives
pub mod Lines
