-- The entries so far, and the remaining ones.
use Rattle.std.proofs.Common.{◌≡◌, ◌∷◌, ◌++◌, drop, map}
use Rattle.std.specs.Prelude.{codes}
use Rattle.tomex_weights.specs.WeightsTable.{all_text}
use Rattle.tomex_weights.proofs.table.percent_column.Given as goal

abbrev pub invariant-loop-row : goal.invariant-loop-row
invariant-loop-row g l = record {
  name : l.column.name ≡ codes "all";
  entries : l.column.entries ++ map (all_text l.surveyed) (drop l.row-index l.rows)
      ≡ codes "-" ∷ map (all_text l.surveyed) l.rows;
}
