-- The best row so far, and what it leads to.
use Rattle.std.proofs.Common.{◌≡◌, drop, None}
use Rattle.tomex_pareto.specs.Steps.{best_of, is_cheaper, leads_flatter}
use Rattle.tomex_pareto.proofs.hulls.flattest.Given as goal

abbrev pub invariant-loop-other : goal.invariant-loop-other
invariant-loop-other l = best_of (is_cheaper l.row) (leads_flatter l.row) l.best (drop l.other-index l.front)
    ≡ best_of (is_cheaper l.row) (leads_flatter l.row) None l.front
