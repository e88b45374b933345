-- Plateaus: configurations on which a program takes the same cycles, derived from the demands of one run.
use Rattle.std.specs.Prelude.{◌≡◌, ℕ, ◌+◌, ◌<◌, ◌≤◌, min, ◌==◌, nat_le, Bool, true, ◌&&◌, if◌then◌else◌, List}
use Rattle.std.specs.Prelude.{◌++◌, map, reverse, Option, option_map, slice_index}
use Rattle.std.specs.List.{find, list_all}
use Rattle.tomex_rvdec.specs.Places.{place_of_pool, place_of_unit}
use Rattle.tomex_rvdec.specs.declared.pool.PoolId.{PoolId}
use Rattle.tomex_rvdec.specs.declared.pool.UnitId.{UnitId}
use Rattle.tomex_rvexec.specs.declared.step.Step.{Step}
use Rattle.tomex_config.specs.Configuration.{Configuration, IsWithinLimits, stations_of, option_of}
use Rattle.tomex_timing.specs.declared.demands.Demand.{Demand}
use Rattle.tomex_timing.specs.declared.demands.Demands.{Demands}
use Rattle.tomex_config.specs.declared.part.Part.{Part}
use Rattle.tomex_config.specs.declared.part.Part.TheVariants.{Stations, Units, Buses, Width}
use Rattle.tomex_timing.specs.Demands.{demand_of}
use Rattle.tomex_config.specs.Parts.{all_parts, count_of, with_count}
use Rattle.tomex_config.specs.Cost.{all_units}
use Rattle.tomex_timing.specs.Search.{times_in, total_of}
use Rattle.tomex_plateaus.specs.declared.interval.Interval.{Interval}
use Rattle.tomex_plateaus.specs.declared.plateau.Plateau.{Plateau}

abbrev pub is_within : Interval → ℕ → Bool
is_within i n = nat_le i.least n && nat_le n i.most

-- a configuration's numbers: the counts of all parts, then the latencies of all kinds of units
abbrev pub numbers_of : Configuration → List ℕ
numbers_of config = map (count_of config) all_parts ++ map (λ unit. (option_of config unit).latency) all_units

-- the place of a part's count among these numbers: pools, kinds of units, the buses, the width
abbrev pub place_of_count : Part → ℕ
place_of_count (Stations pool) = place_of_pool pool
place_of_count (Units unit) = 6 + place_of_unit unit
place_of_count Buses = 11
place_of_count Width = 12

-- that of a latency
abbrev pub place_of_latency : UnitId → ℕ
place_of_latency unit = 13 + place_of_unit unit

-- from the least to the most of the number at a place on a plateau
abbrev pub interval_at : Plateau → ℕ → Interval
interval_at p place = record { least = slice_index p.least place; most = slice_index p.most place }

-- the counts of a part on a plateau
abbrev pub counts_of : Plateau → Part → Interval
counts_of p part = interval_at p (place_of_count part)

-- the latencies of a kind of unit on a plateau
abbrev pub latencies_of : Plateau → UnitId → Interval
latencies_of p unit = interval_at p (place_of_latency unit)

-- numbers in the intervals of a plateau
abbrev pub fits : List ℕ → Plateau → Bool
fits numbers p =
    list_all (λ part. is_within (counts_of p part) (slice_index numbers (place_of_count part))) all_parts
    && list_all (λ unit. is_within (latencies_of p unit) (slice_index numbers (place_of_latency unit))) all_units

-- a configuration lies on a plateau: its counts and latencies are in the plateau's intervals
abbrev pub lies_on : Configuration → Plateau → Bool
lies_on config p = fits (numbers_of config) p

-- on every configuration of it the run of these steps takes its total
abbrev pub IsPlateauOf : List Step → Plateau → Type 0
IsPlateauOf steps p = (config : Configuration) → IsWithinLimits config → lies_on config p ≡ true
    → total_of (times_in config steps) ≡ p.total

-- the total of the last plateau of a list on which a configuration lies
abbrev pub total_known : Configuration → List Plateau → Option ℕ
total_known config found = option_map (λ p. p.total) (find (lies_on config) (reverse found))

-- If no step waits for a part, every count from the run's peak on gives the same cycles; otherwise the
-- configuration's own count does. A configuration's counts are at most 16.
abbrev pub counts_for : Demand → ℕ → Interval
counts_for demand count =
    if demand.waits then record { least = count; most = count }
    else record { least = min demand.peak 255; most = 255 }

-- if the run uses no unit of a kind, any latency gives the same cycles
abbrev pub latencies_for : Demand → ℕ → Interval
latencies_for demand latency =
    if demand.peak == 0 then record { least = 0; most = 255 } else record { least = latency; most = latency }

abbrev pub stations_for : Demands → Configuration → PoolId → Interval
stations_for demands own pool = counts_for (demand_of demands (Stations pool)) (stations_of own pool)

abbrev pub units_for : Demands → Configuration → UnitId → Interval
units_for demands own unit = counts_for (demand_of demands (Units unit)) (option_of own unit).units

abbrev pub latency_for : Demands → Configuration → UnitId → Interval
latency_for demands own unit = latencies_for (demand_of demands (Units unit)) (option_of own unit).latency

-- the intervals of all numbers, in their order, that follow from the demands of a run on its own configuration
abbrev pub bounds_of : Demands → Configuration → List Interval
bounds_of demands own =
    map (λ part. counts_for (demand_of demands part) (count_of own part)) all_parts
    ++ map (latency_for demands own) all_units

-- the plateau of these
abbrev pub plateau_of : Demands → Configuration → Plateau
plateau_of demands own = record {
  least = map (λ i. i.least) (bounds_of demands own);
  most = map (λ i. i.most) (bounds_of demands own);
  total = demands.total;
}

-- with each number of a part from this one on and below the configuration's own the run takes the same cycles
abbrev pub AreSameFrom : List Step → Configuration → Part → ℕ → Type 0
AreSameFrom steps config part low = (n : ℕ) → 1 ≤ n → low ≤ n → n < count_of config part
    → total_of (times_in (with_count config part n) steps) ≡ total_of (times_in config steps)
