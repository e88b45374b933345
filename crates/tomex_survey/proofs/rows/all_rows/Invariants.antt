-- The rows so far, and the remaining ones.
use Rattle.std.proofs.Common.{◌≡◌, ◌++◌, drop}
use Rattle.tomex_pareto.specs.Front.{rows_from}
use Rattle.tomex_study.specs.Cycles.{cycles_of}
use Rattle.tomex_study.specs.StudyFront.{all_rows}
use Rattle.tomex_survey.proofs.rows.all_rows.Given as goal

abbrev pub invariant-loop-row : goal.invariant-loop-row
invariant-loop-row g l =
    l.rows.items ++ rows_from l.row (drop l.row l.study.costs) (drop l.row (cycles_of l.study)) ≡ all_rows l.study
