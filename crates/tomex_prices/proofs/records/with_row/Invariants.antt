-- The records so far, and the remaining ones.
use Rattle.std.proofs.Common.{◌≡◌, ◌++◌, drop}
use Rattle.std.specs.List.{flat_map}
use Rattle.tomex_prices.specs.PricesCsv.{price_record, row_records}
use Rattle.tomex_prices.proofs.records.with_row.Given as goal

abbrev pub invariant-loop-column : goal.invariant-loop-column
invariant-loop-column g l =
    l.made ++ flat_map (λ p. price_record l.surveyed l.row p.price) (drop l.column-index l.columns)
    ≡ l.fn.text ++ row_records l.surveyed l.row
