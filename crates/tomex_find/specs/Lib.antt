-- What contracts cite: choices and the rows that have them, and the row that they name.
pub mod Find
pub mod RowName
