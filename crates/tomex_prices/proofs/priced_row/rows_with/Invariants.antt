-- The rows so far, and the remaining ones.
use Rattle.std.proofs.Common.{◌≡◌, ◌++◌, drop}
use Rattle.std.specs.Prelude.{All}
use Rattle.tomex_study.specs.Cycles.{cycles_of}
use Rattle.tomex_prices.specs.Interval.{IsSmall}
use Rattle.tomex_prices.specs.Repriced.{priced_from}
use Rattle.tomex_prices.specs.Studies.{rows_with}
use Rattle.tomex_prices.proofs.priced_row.rows_with.Given as goal

abbrev pub invariant-loop-row : goal.invariant-loop-row
invariant-loop-row g l = record {
  rows : l.apart.items
      ++ priced_from l.price l.surveyed.prices l.row (drop l.row l.surveyed.rows) (drop l.row (cycles_of l.surveyed))
      ≡ rows_with l.surveyed l.price;
  small : All IsSmall l.apart.items;
}
