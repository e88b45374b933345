-- The entries so far, and the remaining ones.
use Rattle.std.proofs.Common.{◌≡◌, ◌++◌, drop, map}
use Rattle.std.specs.Fmt.{decimal}
use Rattle.tomex_study.specs.Cycles.{total_at}
use Rattle.tomex_front_views.proofs.table.front.program_column.Given as goal

abbrev pub invariant-loop-row : goal.invariant-loop-row
invariant-loop-row g l = record {
  name : l.column.name ≡ l.program.name;
  entries : l.column.entries ++ map (λ r. decimal (total_at l.surveyed l.program r.row)) (drop l.row-index l.rows)
      ≡ map (λ r. decimal (total_at l.surveyed l.program r.row)) l.rows;
}
