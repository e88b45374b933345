-- Lemmas of this crate, and worked runs.
pub mod Chain
pub mod Cases
pub mod Issues
pub mod StationEnds
pub mod Addresses
pub mod Starts
pub mod Operands
pub mod LastWaits
pub mod StartCases
pub mod Whole
pub mod Turned
pub mod LinkBounds
pub mod Operations
pub mod Works
pub mod Lengths
pub mod PathStalls
pub mod Reasons
pub mod SecondRun
pub mod NoStarts
pub mod Follows
pub mod Bounds
pub mod FreePaths
pub mod Places
pub mod HoldSteps
pub mod NoteSteps
pub mod WalkSteps
mod Rows
