-- Laws of a stretch's floor: whatever the run did before, no machine saves more of the stretch.
use Rattle.std.specs.Prelude.{ℕ, ◌+◌, ◌-◌, ◌<◌, ◌≤◌, ◌≡◌, Bool, List, ◌∷◌, ◌++◌, Option, None, length, map, sum, take}
use Rattle.std.specs.Prelude.{All, IfSome, is_none, reverse}
use Rattle.tomex_rvdec.specs.declared.pool.UnitId.{UnitId}
use Rattle.tomex_rvexec.specs.declared.step.Step.{Step}
use Rattle.tomex_config.specs.Configuration.{Configuration, IsWithinLimits, option_of}
use Rattle.tomex_timing.specs.declared.times.Done.{Done}
use Rattle.tomex_timing.specs.History.{greatest_end, last_issue}
use Rattle.tomex_timing.specs.Recurrence.{AreTimed}
use Rattle.tomex_floor.specs.Floor.{floors_of}
use Rattle.tomex_floor.specs.Laws.{AreNoFaster}
use Rattle.tomex_stretches.specs.Cycles.{floor_cycles, floors_before, is_key, own_cycles, stretch_of}
use Rattle.tomex_stretches.specs.Cycles.{sum_below, sum_where}
use Rattle.tomex_stretches.specs.Stretch.{AreNoLaterBy, issue_of_oldest, joined, steps_of, stretch_floor}
use Rattle.tomex_stretches.specs.Stretch.{sum_of_floors}

-- Counted from its first issue, no step of a stretch does anything earlier than on the stretch's floor. The latencies
-- are those of the units that the stretch uses: those of the others don't matter.
abbrev pub FloorFrom : Type 0
FloorFrom = (config : Configuration) (latency : UnitId → ℕ) (w : ℕ) (recent older : List Done)
    → AreTimed config (recent ++ older) → config.width ≤ w → AreNoFaster latency config recent
    → AreNoLaterBy (issue_of_oldest recent - 1) (floors_of latency w (steps_of recent)) recent

-- so from its first issue to that of the step after it, which is the youngest of these, it takes at least its floor
abbrev pub StretchIsBound : Type 0
StretchIsBound = (config : Configuration) (latency : UnitId → ℕ) (w : ℕ) (recent older : List Done)
    → AreTimed config (recent ++ older) → config.width ≤ w → AreNoFaster latency config recent
    → stretch_floor latency w (steps_of recent) ≤ last_issue recent - issue_of_oldest recent

-- and the last stretch of a run, with the cycles up to the run's end, at least its floor's total
abbrev pub LastStretchIsBound : Type 0
LastStretchIsBound = (config : Configuration) (latency : UnitId → ℕ) (w : ℕ) (recent older : List Done)
    → AreTimed config (recent ++ older) → config.width ≤ w → AreNoFaster latency config recent
    → greatest_end (floors_of latency w (steps_of recent)) ≤ greatest_end (recent ++ older) + 1 - issue_of_oldest recent

-- The floors of all stretches add up to no more than any such machine takes, however the run is cut.
abbrev pub SumIsBound : Type 0
SumIsBound = (config : Configuration) (latency : UnitId → ℕ) (w : ℕ) (stretches : List (List Done))
    → AreTimed config (joined stretches) → config.width ≤ w
    → ((unit : UnitId) → latency unit ≤ (option_of config unit).latency)
    → sum_of_floors latency w None (map steps_of stretches) ≤ greatest_end (joined stretches)

-- so to no more than the run's floor, which such a machine reaches
abbrev pub FloorsAddUp : Type 0
FloorsAddUp = (latency : UnitId → ℕ) (w : ℕ) (stretches : List (List Step)) → 0 < w
    → sum_of_floors latency w None stretches ≤ greatest_end (floors_of latency w (joined stretches))

-- The cycles of a run's steps add up to the run's.
abbrev pub CyclesAddUp : Type 0
CyclesAddUp = (config : Configuration) (h : List Done) → IsWithinLimits config → AreTimed config h
    → sum (own_cycles h) ≡ greatest_end h

-- The floor cycles of the steps of a stretch add up to its floor: of its steps, and one after it.
abbrev pub StretchesAddUp : Type 0
StretchesAddUp = (latency : UnitId → ℕ) (w : ℕ) (key : Option ℕ) (s next : Step) (older : List Step)
    (keys : List (Option ℕ))
    → sum (take (length (s ∷ stretch_of key older keys)) (floors_before latency w (s ∷ older) (key ∷ keys)))
    ≡ stretch_floor latency w (next ∷ s ∷ stretch_of key older keys)

-- Whichever keys are taken, no machine of at most this width and at least these latencies takes fewer cycles for their
-- steps than they have floor cycles.
abbrev pub FloorsAreBounds : Type 0
FloorsAreBounds = (config : Configuration) (latency : UnitId → ℕ) (w : ℕ) (h : List Done) (keys : List (Option ℕ))
    (p : Option ℕ → Bool) → AreTimed config h → config.width ≤ w
    → ((unit : UnitId) → latency unit ≤ (option_of config unit).latency)
    → sum_where p keys (floor_cycles latency w (steps_of h) keys) ≤ sum_where p keys (own_cycles h)

-- all floor cycles are no more than the run's floor
abbrev pub FloorCyclesAddUp : Type 0
FloorCyclesAddUp = (latency : UnitId → ℕ) (w : ℕ) (steps : List Step) (keys : List (Option ℕ)) → 0 < w
    → sum (floor_cycles latency w steps keys) ≤ greatest_end (floors_of latency w steps)

-- Each step has one key or none. So what is summed by key adds up to the sum over all steps.
abbrev pub KeysAddUp : Type 0
KeysAddUp = (count : ℕ) (keys : List (Option ℕ)) (numbers : List ℕ) → length keys ≡ length numbers
    → All (λ key. IfSome key (λ n. n < count)) keys
    → sum_below count (λ n. sum_where (is_key n) keys numbers) + sum_where is_none keys numbers ≡ sum numbers

-- and it doesn't depend on their order
abbrev pub OrderDoesntMatter : Type 0
OrderDoesntMatter = (p : Option ℕ → Bool) (keys : List (Option ℕ)) (numbers : List ℕ)
    → length keys ≡ length numbers → sum_where p (reverse keys) (reverse numbers) ≡ sum_where p keys numbers
