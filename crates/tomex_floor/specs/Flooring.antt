-- The code's own words: floors of a run that are known for some latencies.
use Rattle.std.specs.Prelude.{ℕ, ◌≡◌, ◌<◌, ◌^◌, Bool, false, if◌then◌else◌, List, length, map, All, slice_index_or}
use Rattle.std.specs.List.{list_any}
use Rattle.tomex_rvdec.specs.Places.{place_of_unit}
use Rattle.tomex_rvdec.specs.declared.pool.UnitId.{UnitId}
use Rattle.tomex_rvexec.specs.Steps.{step_unit}
use Rattle.tomex_rvexec.specs.declared.step.Step.{Step}
use Rattle.tomex_config.specs.Configuration.{Configuration}
use Rattle.tomex_floor.specs.Floor.{floors_by_width}
use Rattle.tomex_config.specs.Configuration.{latency_of}
use Rattle.tomex_timing.specs.History.{is_of}
use Rattle.tomex_config.specs.Cost.{all_units}
use Rattle.tomex_floor.specs.declared.floored.KnownFloors.{KnownFloors}

-- a step uses this kind of unit
abbrev pub is_used_by : List Step → UnitId → Bool
is_used_by steps unit = list_any (λ s. is_of unit (step_unit s)) steps

abbrev pub used_latency : Bool → ℕ → ℕ
used_latency is_used latency = if is_used then latency else 0

-- a configuration's latencies of the kinds of units that are used, 0 of the others
abbrev pub used_latencies : List Bool → Configuration → List ℕ
used_latencies uses c =
    map (λ unit. used_latency (slice_index_or uses (place_of_unit unit) false) (latency_of c unit)) all_units

-- the floors that are known are those of each configuration with these latencies
abbrev pub AreFloorsOf : List Step → List Bool → KnownFloors → Type 0
AreFloorsOf steps uses known = (c : Configuration) → used_latencies uses c ≡ known.latencies
    → floors_by_width (latency_of c) steps ≡ known.floors

pub record AreFloors (steps : List Step) (uses : List Bool) (known : List KnownFloors) : Type 0 where
  pub few : length steps < 2 ^ 56
  pub uses_are : uses ≡ map (is_used_by steps) all_units
  pub known_are : All (AreFloorsOf steps uses) known
