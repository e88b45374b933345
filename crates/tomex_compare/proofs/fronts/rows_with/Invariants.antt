-- The rows so far, and the remaining ones.
use Rattle.std.proofs.Common.{◌≡◌, ◌++◌, drop, map}
use Rattle.tomex_compare.specs.Groups.{row_with}
use Rattle.tomex_compare.proofs.fronts.rows_with.Given as goal

abbrev pub invariant-loop-row : goal.invariant-loop-row
invariant-loop-row g l =
    l.rows.items ++ map (row_with l.surveyed l.build.program.now) (drop l.row-index l.row-items)
    ≡ map (row_with l.surveyed l.build.program.now) l.row-items
