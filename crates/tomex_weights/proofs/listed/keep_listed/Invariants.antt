-- The listed ones of the rows so far, and of those to come.
use Rattle.std.proofs.Common.{◌≡◌, ◌++◌, drop}
use Rattle.std.specs.List.{filter}
use Rattle.tomex_weights.specs.Listed.{is_listed}
use Rattle.tomex_weights.proofs.listed.keep_listed.Given as goal

abbrev pub invariant-loop-row : goal.invariant-loop-row
invariant-loop-row g l =
    l.listed.items ++ filter (is_listed l.surveyed) (drop l.row-index l.row-items)
    ≡ filter (is_listed l.surveyed) l.row-items
