-- The accounts of a run's steps by a key: what they have of the run's cycles, and of their stretches' floors. Steps are
-- in program order.
use Rattle.std.specs.Prelude.{◌≡◌, ℕ, ◌<◌, ◌≤◌, Bool, List, Option, is_none, length, reverse, slice_index, sum}
use Rattle.tomex_rvdec.specs.declared.pool.UnitId.{UnitId}
use Rattle.tomex_rvexec.specs.declared.step.Step.{Step}
use Rattle.tomex_config.specs.Configuration.{Configuration, IsWithinLimits, latency_of}
use Rattle.tomex_timing.specs.Search.{history, times_in, total_of}
use Rattle.tomex_stretches.specs.Cycles.{floor_cycles, is_key, own_cycles, sum_where}
use Rattle.tomex_stretches.specs.declared.adding.Sums.{Sums}

-- the cycles of a run's steps on a configuration
abbrev pub own_in : Configuration → List Step → List ℕ
own_in config steps = reverse (own_cycles (history config steps))

-- what no machine with its latencies and width saves of them, if the run is cut in these stretches
abbrev pub floors_in : Configuration → List Step → List (Option ℕ) → List ℕ
floors_in config steps stretches =
    reverse (floor_cycles (latency_of config) config.width (reverse steps) (reverse stretches))

-- the sums of some numbers by these keys
pub record AreSums {A : Type 0} (count : ℕ) (keys : List (Option ℕ)) (numbers : List ℕ) (sums : Sums A) : Type 0 where
  pub many : length sums.by_key.items ≡ count
  pub by_key : (n : ℕ) → n < count → slice_index sums.by_key.items n ≡ sum_where (is_key n) keys numbers
  pub without : sums.without ≡ sum_where is_none keys numbers

-- The cycles of a run's steps add up to the run's.
abbrev pub RunsAddUp : Type 0
RunsAddUp = (config : Configuration) (steps : List Step) → IsWithinLimits config
    → sum (own_in config steps) ≡ total_of (times_in config steps)

-- Some stretches take at least their floors on each machine that is no wider and has no shorter latency.
abbrev pub StretchesTakeTheirFloors : Type 0
StretchesTakeTheirFloors = (config other : Configuration) (steps : List Step) (stretches : List (Option ℕ))
    (p : Option ℕ → Bool) → IsWithinLimits other → length stretches ≡ length steps → other.width ≤ config.width
    → ((unit : UnitId) → latency_of config unit ≤ latency_of other unit)
    → sum_where p stretches (floors_in config steps stretches) ≤ sum_where p stretches (own_in other steps)
