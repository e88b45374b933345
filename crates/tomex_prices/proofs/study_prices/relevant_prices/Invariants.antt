-- The relevant ones of the prices so far.
use Rattle.std.proofs.Common.{◌≡◌, take}
use Rattle.std.specs.List.{filter}
use Rattle.tomex_prices.specs.Prices.{is_relevant}
use Rattle.tomex_prices.proofs.study_prices.relevant_prices.Given as goal

abbrev pub invariant-loop-price : goal.invariant-loop-price
invariant-loop-price g l =
    l.relevant.items ≡ filter (is_relevant l.study.rows) (take l.price-index l.price-items)
