-- Laws of the floor: no machine is faster, what lowers it, and that it is reached.
use Rattle.std.specs.Prelude.{ℕ, ◌<◌, ◌≤◌, ◌≡◌, ◌⊎◌, List, length, map}
use Rattle.tomex_rvdec.specs.declared.pool.UnitId.{UnitId}
use Rattle.tomex_rvexec.specs.declared.step.Step.{Step}
use Rattle.tomex_config.specs.Configuration.{Configuration, IsWithinLimits, option_of}
use Rattle.tomex_config.specs.declared.part.Part.TheVariants.{Units}
use Rattle.tomex_timing.specs.declared.times.Done.{Done}
use Rattle.tomex_timing.specs.History.{greatest_end}
use Rattle.tomex_timing.specs.Needs.{peak}
use Rattle.tomex_timing.specs.Recurrence.{AreTimed}
use Rattle.tomex_timing.specs.Search.{history, times_in, total_of}
use Rattle.tomex_floor.specs.Floor.{AreNoLater, all_without_station, floor_of, floors_of, unlimited}

-- a configuration has at least the latency of each kind of unit that the run uses
abbrev pub AreNoFaster : (UnitId → ℕ) → Configuration → List Done → Type 0
AreNoFaster latency config h =
    (unit : UnitId) → (latency unit ≤ (option_of config unit).latency) ⊎ (peak (Units unit) h ≡ 0)

-- no machine of these latencies and at most this width does any step of a run earlier than on its floor
abbrev pub FloorsAreNoLater : Type 0
FloorsAreNoLater = (config : Configuration) (latency : UnitId → ℕ) (w : ℕ) (h : List Done) → AreTimed config h
    → config.width ≤ w → AreNoFaster latency config h
    → AreNoLater (floors_of latency w (map (λ d. d.step) h)) h

-- so none takes fewer cycles than the floor
abbrev pub FloorIsBound : Type 0
FloorIsBound = (config : Configuration) (latency : UnitId → ℕ) (w : ℕ) (steps : List Step) → IsWithinLimits config
    → config.width ≤ w → AreNoFaster latency config (history config steps)
    → floor_of latency w steps ≤ total_of (times_in config steps)

-- the floors of smaller latencies or a greater width are no later
abbrev pub FloorsFall : Type 0
FloorsFall = (latency slower : UnitId → ℕ) (w narrower : ℕ) (steps : List Step)
    → ((unit : UnitId) → latency unit ≤ slower unit) → narrower ≤ w
    → AreNoLater (floors_of latency w steps) (floors_of slower narrower steps)

-- a floor is reached: the recurrence gives it on a configuration with as many of each part as the run has steps, so no
-- greater number is a bound for machines of any size
abbrev pub FloorsAreReached : Type 0
FloorsAreReached = (latency : UnitId → ℕ) (w n : ℕ) (steps : List Step) → 0 < w → length steps ≤ n
    → (h : List Done) × AreTimed (unlimited latency w n) h
    × (all_without_station h ≡ floors_of latency w steps)
    × (greatest_end h ≡ greatest_end (floors_of latency w steps))
