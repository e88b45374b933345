-- The columns so far, and the remaining ones.
use Rattle.std.proofs.Common.{◌≡◌, ◌++◌, drop, map}
use Rattle.tomex_prices.specs.PricesCsv.{ranges_by}
use Rattle.tomex_prices.proofs.price_columns.columns_of.Given as goal

abbrev pub invariant-loop-price : goal.invariant-loop-price
invariant-loop-price g l =
    l.columns.items ++ map (ranges_by l.surveyed) (drop l.price-index l.prices) ≡ map (ranges_by l.surveyed) l.prices
