-- The intervals so far, and the remaining ones.
use Rattle.std.proofs.Common.{◌≡◌, ◌++◌, drop, map}
use Rattle.tomex_prices.specs.Studies.{interval_of}
use Rattle.tomex_prices.proofs.price_columns.column_of.Given as goal

abbrev pub invariant-loop-row : goal.invariant-loop-row
invariant-loop-row g l =
    l.ranges.items ++ map (interval_of l.surveyed l.price) (drop l.row-index l.row-items)
    ≡ map (interval_of l.surveyed l.price) l.row-items
