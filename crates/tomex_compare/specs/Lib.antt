-- Definitions that contracts cite: the builds that are compared, rows by the ratio of their cycles, groups of rows, the
-- two tables, and the laws of all that.
pub mod Builds
pub mod Pairs
pub mod Groups
pub mod GroupTable
pub mod GroupCsv
pub mod ProgramTable
pub mod Compare
pub mod Laws
pub mod BestAndWorst
