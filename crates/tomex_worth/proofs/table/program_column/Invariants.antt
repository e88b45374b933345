-- The entries so far, and the remaining ones.
use Rattle.std.proofs.Common.{◌≡◌, ◌∷◌, ◌++◌, drop, map}
use Rattle.std.specs.Fmt.{decimal}
use Rattle.tomex_layout.specs.Differences.{signed_difference}
use Rattle.tomex_study.specs.Cycles.{total_at}
use Rattle.tomex_worth.proofs.table.program_column.Given as goal

abbrev pub invariant-loop-change : goal.invariant-loop-change
invariant-loop-change g l = record {
  name : l.column.name ≡ l.program.name;
  entries : l.column.entries
      ++ map (λ c. signed_difference (total_at l.surveyed l.program l.machine.own.row)
      (total_at l.surveyed l.program c.row.row))
      (drop l.change-index l.machine.changes.now)
      ≡ decimal (total_at l.surveyed l.program l.machine.own.row)
      ∷ map (λ c. signed_difference (total_at l.surveyed l.program l.machine.own.row)
      (total_at l.surveyed l.program c.row.row))
      l.machine.changes.now;
}
