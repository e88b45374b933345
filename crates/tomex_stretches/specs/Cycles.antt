-- What each step has of a run's cycles, and of the floors of its stretches. Steps are in a history's order, the
-- youngest first.
use Rattle.std.specs.Prelude.{ℕ, zero, suc, ◌+◌, ◌-◌, ◌==◌, Bool, true}
use Rattle.std.specs.Prelude.{false, if◌then◌else◌, List, [], ◌∷◌, Option, Some, None}
use Rattle.tomex_rvdec.specs.declared.pool.UnitId.{UnitId}
use Rattle.tomex_rvexec.specs.declared.step.Step.{Step}
use Rattle.tomex_timing.specs.declared.times.Done.{Done}
use Rattle.tomex_timing.specs.History.{greatest_end, last_issue}
use Rattle.tomex_floor.specs.Floor.{floor_issue, floors_of}

-- Each cycle of a run is the step's that issued last. So a step has those from its issue up to the next step's, which
-- issues in the cycle `next`.
abbrev pub cycles_before : ℕ → List Done → List ℕ
cycles_before next [] = []
cycles_before next (d ∷ older) = (next - d.at.issue) ∷ cycles_before d.at.issue older

-- and the last step has all that are left
abbrev pub own_cycles : List Done → List ℕ
own_cycles h = cycles_before (greatest_end h + 1) h

-- A run is cut in stretches where a key changes, which each step has or has none.

abbrev pub is_same : Option ℕ → Option ℕ → Bool
is_same None None = true
is_same (Some a) (Some b) = a == b
is_same _ _ = false

-- the steps just before one with a key that are in the same stretch
abbrev pub stretch_of : Option ℕ → List Step → List (Option ℕ) → List Step
stretch_of key [] keys = []
stretch_of key (s ∷ older) [] = []
stretch_of key (s ∷ older) (k ∷ keys) = if is_same k key then s ∷ stretch_of key older keys else []

-- On the floor of its stretch a step has the cycles from its issue up to that of the next step.
abbrev pub cycles_on : (UnitId → ℕ) → ℕ → List Step → ℕ
cycles_on latency w stretch =
    floor_issue w (floors_of latency w stretch) - last_issue (floors_of latency w stretch)

-- the cycles that the last step of a run has there: all that are left
abbrev pub cycles_left : (UnitId → ℕ) → ℕ → List Step → ℕ
cycles_left latency w stretch =
    greatest_end (floors_of latency w stretch) + 1 - last_issue (floors_of latency w stretch)

-- the cycles that each step has on its stretch's floor, if another step follows
abbrev pub floors_before : (UnitId → ℕ) → ℕ → List Step → List (Option ℕ) → List ℕ
floors_before latency w [] keys = []
floors_before latency w (s ∷ older) [] = []
floors_before latency w (s ∷ older) (k ∷ keys) =
    cycles_on latency w (s ∷ stretch_of k older keys) ∷ floors_before latency w older keys

-- the same for the steps of a whole run: what no machine saves of their own cycles
abbrev pub floor_cycles : (UnitId → ℕ) → ℕ → List Step → List (Option ℕ) → List ℕ
floor_cycles latency w [] keys = []
floor_cycles latency w (s ∷ older) [] = []
floor_cycles latency w (s ∷ older) (k ∷ keys) =
    cycles_left latency w (s ∷ stretch_of k older keys) ∷ floors_before latency w older keys

-- the sum of the numbers whose key passes
abbrev pub sum_where : (Option ℕ → Bool) → List (Option ℕ) → List ℕ → ℕ
sum_where p [] numbers = 0
sum_where p (k ∷ keys) [] = 0
sum_where p (k ∷ keys) (n ∷ numbers) = (if p k then n else 0) + sum_where p keys numbers

-- the steps with this key
abbrev pub is_key : ℕ → Option ℕ → Bool
is_key n key = is_same key (Some n)

-- the sum over all keys below a number
abbrev pub sum_below : ℕ → (ℕ → ℕ) → ℕ
sum_below zero f = 0
sum_below (suc n) f = sum_below n f + f n
