-- The worst row so far.
use Rattle.std.proofs.Common.{◌≡◌, map}
use Rattle.std.specs.List.{best_of, range_with_len}
use Rattle.tomex_compare.specs.ProgramTable.{cycles_on, is_worse}
use Rattle.tomex_compare.proofs.extremes.worst_row.Given as goal

abbrev pub invariant-loop-row : goal.invariant-loop-row
invariant-loop-row g l =
    l.worst ≡ best_of is_worse (cycles_on l.surveyed l.build.program.now 0)
    (map (cycles_on l.surveyed l.build.program.now) (range_with_len 0 l.row))
