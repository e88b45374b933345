-- Lemmas of this crate.
mod PriceLines
