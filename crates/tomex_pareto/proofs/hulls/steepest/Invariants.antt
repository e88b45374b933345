-- The best row so far, and what it leads to.
use Rattle.std.proofs.Common.{◌≡◌, drop, None}
use Rattle.tomex_pareto.specs.Steps.{best_of, follows_steeper, is_costlier}
use Rattle.tomex_pareto.proofs.hulls.steepest.Given as goal

abbrev pub invariant-loop-other : goal.invariant-loop-other
invariant-loop-other l = best_of (is_costlier l.row) (follows_steeper l.row) l.best (drop l.other-index l.front)
    ≡ best_of (is_costlier l.row) (follows_steeper l.row) None l.front
