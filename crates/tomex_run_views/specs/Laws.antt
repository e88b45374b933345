-- Laws of the stalls reports by place.
use Rattle.std.specs.Prelude.{◌≡◌, ℕ, ◌+◌, ◌==◌, List, [], ◌∷◌, length, sum_by, if◌then◌else◌}
use Rattle.tomex_rvexec.specs.declared.step.Step.{Step}
use Rattle.tomex_config.specs.Configuration.{Configuration, IsWithinLimits}
use Rattle.tomex_timing.specs.Needs.{drain}
use Rattle.tomex_timing.specs.Search.{history, times_in, total_of}
use Rattle.tomex_run_views.specs.ByPlace.{AreKeys, Visit, cycles_of, visits_in, visits_of}

-- the steps of all keys, as those at all places, are those of the run
abbrev pub StepsAddUp : Type 0
StepsAddUp = (key : Step → ℕ) (visits : List Visit) (keys : List ℕ) → AreKeys key visits keys
    → sum_by (λ k. length (visits_of key k visits)) keys ≡ length visits

-- and what they take, as cycles or waits by a cause, is what the run's steps take
abbrev pub SumsAddUp : Type 0
SumsAddUp = (value : Visit → ℕ) (key : Step → ℕ) (visits : List Visit) (keys : List ℕ) → AreKeys key visits keys
    → sum_by (λ k. sum_by value (visits_of key k visits)) keys ≡ sum_by value visits

-- 1 if the run's first step has the key
abbrev pub first_of : (Step → ℕ) → ℕ → List Step → ℕ
first_of key k [] = 0
first_of key k (s ∷ steps) = if key s == k then 1 else 0

-- the cycles of a key's steps are those in which they wait to issue, and one more if the run's first step is one of
-- them
abbrev pub CyclesAreWaits : Type 0
CyclesAreWaits = (config : Configuration) (steps : List Step) (key : Step → ℕ) (k : ℕ) → IsWithinLimits config
    → let visits = visits_of key k (visits_in config steps) in
    cycles_of visits
    ≡ sum_by (λ v. v.waits.branch) visits + sum_by (λ v. v.waits.width) visits + sum_by (λ v. v.waits.station) visits
    + first_of key k steps

-- with the drain the cycles of all steps are the run's total
abbrev pub CyclesAddUp : Type 0
CyclesAddUp = (config : Configuration) (steps : List Step) → IsWithinLimits config
    → cycles_of (visits_in config steps) + drain (history config steps) ≡ total_of (times_in config steps)
