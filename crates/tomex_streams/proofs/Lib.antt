-- Lemmas that the proofs of the crate share.
mod Pieces
