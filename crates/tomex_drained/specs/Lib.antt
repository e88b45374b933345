-- Drained histories and the laws on them, and what the image of a part takes.
pub mod Drained
pub mod Parts
