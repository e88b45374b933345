-- Lemmas of this crate.
pub mod Within
pub mod Splitting
pub mod Repricing
pub mod SameCycles
pub mod AllRows
pub mod RepricedStudy
pub mod StatedAndEqual
pub mod FirstOptions
pub mod Counting
mod RangeTexts
pub mod Columns
mod CsvRecords
pub mod AllCosts
pub mod NewCosts
pub mod Factors
pub mod Together
mod Worked
pub mod Firsts
