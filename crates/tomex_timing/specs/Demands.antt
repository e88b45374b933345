-- The demands of a run on a machine's parts: of its needs, the peak of each part, and whether any step waits for it.
-- The second half says how one more step is counted.
use Rattle.std.specs.Prelude.{ℕ, ◌≡◌, ◌==◌, nat_lt, false, not, ◌||◌, List, Option, Some, None, map, max, replicate}
use Rattle.std.specs.Prelude.{slice_index_or, slice_set}
use Rattle.tomex_rvdec.specs.Places.{place_of_pool, place_of_unit}
use Rattle.tomex_rvdec.specs.declared.pool.PoolId.{PoolId}
use Rattle.tomex_rvdec.specs.declared.pool.UnitId.{UnitId}
use Rattle.tomex_config.specs.Configuration.{Configuration}
use Rattle.tomex_timing.specs.declared.demands.Demand.{Demand}
use Rattle.tomex_timing.specs.declared.demands.Demands.{Demands}
use Rattle.tomex_timing.specs.declared.needs.Needs.{Needs}
use Rattle.tomex_timing.specs.declared.need.Need.{Need}
use Rattle.tomex_config.specs.declared.part.Part.{Part}
use Rattle.tomex_config.specs.declared.part.Part.TheVariants.{Stations, Units, Buses, Width}
use Rattle.tomex_timing.specs.declared.need.Waits.{Waits}
use Rattle.tomex_timing.specs.declared.times.Done.{Done}
use Rattle.tomex_timing.specs.declared.waiting.Taken.{Taken}
use Rattle.tomex_timing.specs.declared.recent.Facts.{Facts}
use Rattle.tomex_timing.specs.Needs.{AreNeeds}

-- a part's peak, and whether any step waits for it
abbrev pub demand_from : Need → Demand
demand_from need = record { peak = need.peak; waits = not (need.stalls == 0) }

abbrev pub demands_of : Needs → Demands
demands_of needs = record {
  stations = map demand_from needs.stations;
  units = map demand_from needs.units;
  buses = demand_from needs.buses;
  width = demand_from needs.width;
  total = needs.total;
}

-- these are the demands of a history
pub record AreDemands (config : Configuration) (h : List Done) (demands : Demands) : Type 0 where
  pub needs : Needs
  pub are : AreNeeds config h needs
  pub same : demands ≡ demands_of needs

-- nothing is taken, and nothing waits
abbrev pub no_demand : Demand
no_demand = record { peak = 0; waits = false }

-- the demand for a part
abbrev pub demand_of : Demands → Part → Demand
demand_of demands (Stations pool) = slice_index_or demands.stations (place_of_pool pool) no_demand
demand_of demands (Units unit) = slice_index_or demands.units (place_of_unit unit) no_demand
demand_of demands Buses = demands.buses
demand_of demands Width = demands.width

-- before the first step
abbrev pub nothing_asked : Demands
nothing_asked = record {
  stations = replicate 6 no_demand;
  units = replicate 5 no_demand;
  buses = no_demand;
  width = no_demand;
  total = 0;
}

abbrev pub demand_after : Demand → ℕ → ℕ → Demand
demand_after demand taken waited =
    record { peak = max taken demand.peak; waits = demand.waits || nat_lt 0 waited }

abbrev pub stations_asked : Option PoolId → ℕ → ℕ → List Demand → List Demand
stations_asked None taken waited demands = demands
stations_asked (Some pool) taken waited demands =
    slice_set demands (place_of_pool pool)
    (demand_after (slice_index_or demands (place_of_pool pool) no_demand) taken waited)

abbrev pub units_asked : Option UnitId → ℕ → ℕ → List Demand → List Demand
units_asked None taken waited demands = demands
units_asked (Some unit) taken waited demands =
    slice_set demands (place_of_unit unit)
    (demand_after (slice_index_or demands (place_of_unit unit) no_demand) taken waited)

-- after one more step, with this total
abbrev pub demands_after : Facts → Waits → Taken → ℕ → Demands → Demands
demands_after f waits taken total demands = record {
  stations = stations_asked f.pool taken.station waits.station demands.stations;
  units = units_asked f.unit taken.unit waits.unit demands.units;
  buses = demand_after demands.buses taken.bus waits.bus;
  width = demand_after demands.width taken.width waits.width;
  total = total;
}

-- with another total
abbrev pub with_total : ℕ → Demands → Demands
with_total total demands = record demands { total = total }
