-- The entries so far, and the remaining ones.
use Rattle.std.proofs.Common.{◌≡◌, ◌∷◌, ◌++◌, drop, map}
use Rattle.std.specs.Prelude.{codes}
use Rattle.tomex_layout.specs.RowColumns.{percent_text}
use Rattle.tomex_prices.specs.Percent.{percent_of}
use Rattle.tomex_prices.proofs.table.percent_column.Given as goal

abbrev pub invariant-loop-row : goal.invariant-loop-row
invariant-loop-row g l = record {
  name : l.column.name ≡ codes "all";
  entries : l.column.entries ++ map (λ r. percent_text (percent_of l.surveyed r)) (drop l.row-index l.row-items)
      ≡ codes "-" ∷ map (λ r. percent_text (percent_of l.surveyed r)) l.row-items;
}
