-- What the proofs of the crate share.
mod Built
mod Drawn
mod Found
mod Fronts
mod Views
mod Left
mod Placed
mod Reached
mod Reading
mod Shown
