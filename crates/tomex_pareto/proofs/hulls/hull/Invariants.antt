-- The rows of the hull so far.
use Rattle.std.proofs.Common.{◌≡◌, take}
use Rattle.std.specs.List.{filter}
use Rattle.tomex_pareto.specs.Hull.{is_unmixed}
use Rattle.tomex_pareto.proofs.hulls.hull.Given as goal

abbrev pub invariant-loop-row : goal.invariant-loop-row
invariant-loop-row g l = l.rows.items ≡ filter (is_unmixed l.front) (take l.row-index l.front)
