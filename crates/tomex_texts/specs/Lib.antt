pub mod TimesReport
pub mod Places
pub mod TablesText
pub mod Ends
pub mod RowEnds
pub mod FrontReport
pub mod RowsReport
pub mod RowsLaws
