-- The links so far are counted.
use Rattle.std.proofs.Common.{◌≡◌, ℕ, map, take}
use Rattle.tomex_rvexec.specs.declared.step.Step.{Step}
use Rattle.tomex_run_views.specs.Tally.{IsTally}
use Rattle.tomex_path_views.specs.Charges.{visits_along}
use Rattle.tomex_path_views.proofs.charges.count_links.Given as goal

abbrev pub invariant-loop-link : goal.invariant-loop-link
invariant-loop-link g l =
    (key : Step → ℕ) → l.keys ≡ map key l.steps
    → IsTally key (visits_along l.steps (take l.link-index l.path)) l.tally
