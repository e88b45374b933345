pub mod Changes
pub mod Worth
pub mod WorthCsv
