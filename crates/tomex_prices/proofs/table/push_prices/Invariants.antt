-- The columns so far, and the remaining ones.
use Rattle.std.proofs.Common.{◌≡◌, ◌++◌, drop, map}
use Rattle.tomex_study.specs.StudyFront.{front_of_study}
use Rattle.tomex_prices.specs.PricesTable.{price_column}
use Rattle.tomex_prices.proofs.table.push_prices.Given as goal

abbrev pub invariant-loop-price : goal.invariant-loop-price
invariant-loop-price g l =
    l.columns.items ++ map (price_column l.surveyed (front_of_study l.surveyed)) (drop l.price-index l.relevant)
    ≡ l.fn.columns.items ++ map (price_column l.surveyed (front_of_study l.surveyed)) l.relevant
