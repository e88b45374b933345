-- The finished rows so far, and those to come.
use Rattle.std.proofs.Common.{◌≡◌, ◌++◌, drop}
use Rattle.tomex_sweep.specs.Finished.{finished_from}
use Rattle.tomex_sweep.proofs.finished.finished_rows.Given as goal

abbrev pub invariant-loop-row : goal.invariant-loop-row
invariant-loop-row g l = l.rows.items ++ finished_from l.row (drop l.row l.costs) (drop l.row l.marks)
    ≡ finished_from 0 l.costs l.marks
