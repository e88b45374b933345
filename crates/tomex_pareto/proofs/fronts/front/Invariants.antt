-- What stayed so far, and those to come that will.
use Rattle.std.proofs.Common.{◌≡◌, ◌++◌, drop, None}
use Rattle.tomex_pareto.proofs.Passes.{passing}
use Rattle.tomex_pareto.proofs.fronts.front.Given as goal

abbrev pub invariant-loop-row : goal.invariant-loop-row
invariant-loop-row g l = l.front.items ++ passing l.last (drop l.row-index l.row-items) ≡ passing None l.row-items
