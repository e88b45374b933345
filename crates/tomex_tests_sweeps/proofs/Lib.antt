-- Lemmas that the proofs of the tests share.
mod BoardPlans
