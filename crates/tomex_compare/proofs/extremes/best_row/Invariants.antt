-- The best row so far.
use Rattle.std.proofs.Common.{◌≡◌, map}
use Rattle.std.specs.List.{best_of, range_with_len}
use Rattle.tomex_compare.specs.ProgramTable.{cycles_on, is_better}
use Rattle.tomex_compare.proofs.extremes.best_row.Given as goal

abbrev pub invariant-loop-row : goal.invariant-loop-row
invariant-loop-row g l =
    l.best ≡ best_of is_better (cycles_on l.surveyed l.build.program.now 0)
    (map (cycles_on l.surveyed l.build.program.now) (range_with_len 0 l.row))
