-- The entries so far, and the remaining ones.
use Rattle.std.proofs.Common.{◌≡◌, ◌∷◌, ◌++◌, drop, map}
use Rattle.std.specs.Fmt.{decimal}
use Rattle.tomex_prices.specs.Interval.{range_text}
use Rattle.tomex_prices.specs.Price.{name_of_price, amount}
use Rattle.tomex_prices.specs.Studies.{interval_of}
use Rattle.tomex_prices.proofs.table.price_column.Given as goal

abbrev pub invariant-loop-row : goal.invariant-loop-row
invariant-loop-row g l = record {
  name : l.column.name ≡ name_of_price l.price;
  entries : l.column.entries
      ++ map (λ r. range_text (interval_of l.surveyed l.price r)) (drop l.row-index l.row-items)
      ≡ decimal (amount l.price l.surveyed.prices)
      ∷ map (λ r. range_text (interval_of l.surveyed l.price r)) l.row-items;
}
