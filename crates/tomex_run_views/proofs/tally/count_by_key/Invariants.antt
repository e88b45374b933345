-- The visits so far are counted.
use Rattle.std.proofs.Common.{◌≡◌, ℕ, map, take}
use Rattle.tomex_rvexec.specs.declared.step.Step.{Step}
use Rattle.tomex_run_views.specs.Tally.{IsTally, visits_by}
use Rattle.tomex_run_views.proofs.tally.count_by_key.Given as goal

abbrev pub invariant-loop-index : goal.invariant-loop-index
invariant-loop-index g l =
    (key : Step → ℕ) → l.keys ≡ map key l.steps → IsTally key (take l.index (visits_by 1 l.steps l.waits)) l.tally
