-- The entries so far, and the remaining ones.
use Rattle.std.proofs.Common.{◌≡◌, ◌++◌, drop, map}
use Rattle.tomex_front_views.specs.FrontTable.{name_of_heading, number_under}
use Rattle.std.specs.Fmt.{decimal}
use Rattle.tomex_front_views.proofs.table.front.heading_column.Given as goal

abbrev pub invariant-loop-row : goal.invariant-loop-row
invariant-loop-row g l = record {
  name : l.column.name ≡ name_of_heading l.heading;
  entries : l.column.entries ++ map (λ r. decimal (number_under l.surveyed l.heading r)) (drop l.row-index l.rows)
      ≡ map (λ r. decimal (number_under l.surveyed l.heading r)) l.rows;
}
