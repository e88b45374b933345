-- The definitions that contracts cite: a path's cycles by key and by reason, the places of a loop, the table, and what
-- it has of each loop.
pub mod PathCycles
pub mod Charges
pub mod PlaceOf
pub mod PlaceColumns
pub mod Table
pub mod LoopsReport
pub mod Laws
pub mod Lines
