-- Lemmas that the proofs of the crate share.
pub mod WhyRefused
