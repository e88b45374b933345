-- The definitions that contracts cite: a part of a run, the free words of its window, and the file that is made of it.
pub mod After
pub mod Part
pub mod Room
pub mod Marks
pub mod Walking
pub mod Finding
pub mod Prologue
pub mod Writing
pub mod SymbolFile
pub mod Cut
pub mod Laws
