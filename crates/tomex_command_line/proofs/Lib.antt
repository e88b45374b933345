-- What the proofs of the crate share.
mod Built
mod Found
mod Lines
mod Plain
mod PassedOn
mod Taken
mod ConfigWords
