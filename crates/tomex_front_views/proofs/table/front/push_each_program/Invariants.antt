-- The columns so far, and the remaining ones.
use Rattle.std.proofs.Common.{◌≡◌, ◌++◌, drop, map}
use Rattle.tomex_front_views.specs.FrontTable.{program_column}
use Rattle.tomex_front_views.proofs.table.front.push_each_program.Given as goal

abbrev pub invariant-loop-place : goal.invariant-loop-place
invariant-loop-place g l =
    l.columns.items ++ map (program_column l.surveyed l.rows) (drop l.place l.surveyed.programs)
    ≡ l.fn.columns.items ++ map (program_column l.surveyed l.rows) l.surveyed.programs
