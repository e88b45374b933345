pub mod ChoicesTable
pub mod ChoicesCsv
