pub mod Pieces
mod Rows
mod Widths
pub mod Loops
pub mod Each
pub mod Lengths
mod LastDigits
pub mod PlainRecords
mod Worked
mod WorkedCsv
