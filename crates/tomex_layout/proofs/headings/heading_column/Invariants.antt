-- The entries so far, and the remaining ones.
use Rattle.std.proofs.Common.{◌≡◌, ◌∷◌, ◌++◌, drop, map}
use Rattle.std.specs.Fmt.{decimal}
use Rattle.tomex_layout.specs.RowColumns.{name_of_heading, now_under, number_under}
use Rattle.tomex_layout.proofs.headings.heading_column.Given as goal

abbrev pub invariant-loop-row : goal.invariant-loop-row
invariant-loop-row l = record {
  name : l.column.name ≡ name_of_heading l.heading;
  entries : l.column.entries ++ map (λ r. decimal (number_under l.heading r)) (drop l.row-index l.rows)
      ≡ now_under l.heading ∷ map (λ r. decimal (number_under l.heading r)) l.rows;
}
