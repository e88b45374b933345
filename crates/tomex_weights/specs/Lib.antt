-- Definitions that contracts cite: a study with one weight replaced, for which values of it a row is on the front, and
-- the laws of that.
pub mod Reweighted
pub mod Spans
pub mod Programs
pub mod Listed
pub mod Laws
pub mod Percent
pub mod AllWeights
pub mod Together
pub mod Texts
pub mod WeightsTable
pub mod WeightsCsv
