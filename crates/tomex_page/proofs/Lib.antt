-- Lemmas of this crate.
mod Cycles
mod Linked
mod HullRates
mod NeedsOf
mod ShownRows
mod OnPath
mod Asked
