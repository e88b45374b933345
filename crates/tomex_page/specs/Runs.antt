-- A program's run on a configuration, as pages show it.
use Rattle.std.specs.Prelude.{ℕ, List, map}
use Rattle.tomex_config.specs.Configuration.{Configuration}
use Rattle.tomex_config.specs.Cost.{all_pools}
use Rattle.tomex_floor.specs.Floor.{floor_of}
use Rattle.tomex_config.specs.Configuration.{latency_of}
use Rattle.tomex_path.specs.Path.{path_of}
use Rattle.tomex_path.specs.declared.link.Link.{Link}
use Rattle.tomex_study.specs.Program.{Workload, steps_of}
use Rattle.tomex_timing.specs.History.{greatest_end, last_issue}
use Rattle.tomex_timing.specs.Needs.{peak, stalls, stalls_by}
use Rattle.tomex_config.specs.Cost.{all_units}
use Rattle.tomex_timing.specs.Search.{history}
use Rattle.tomex_timing.specs.declared.needs.Needs.{Needs}
use Rattle.tomex_timing.specs.declared.need.Need.{Need}
use Rattle.tomex_config.specs.declared.part.Part.{Part}
use Rattle.tomex_config.specs.declared.part.Part.TheVariants.{Stations, Units, Buses, Width}
use Rattle.tomex_timing.specs.declared.times.Done.{Done}

-- the need of a history for a part: the most that it takes of it at once, and the cycles that its steps wait for it
abbrev pub need_in : Configuration → List Done → Part → Need
need_in config h part = record { peak = peak part h; stalls = stalls config part h }

-- the needs of a history for all parts
abbrev pub needs_in : Configuration → List Done → Needs
needs_in config h = record {
  stations = map (λ pool. need_in config h (Stations pool)) all_pools;
  units = map (λ unit. need_in config h (Units unit)) all_units;
  buses = need_in config h Buses;
  width = need_in config h Width;
  branch = stalls_by (λ w. w.branch) config h;
  operand = stalls_by (λ w. w.operand) config h;
  address = stalls_by (λ w. w.address) config h;
  memory = stalls_by (λ w. w.memory) config h;
  last_issue = last_issue h;
  total = greatest_end h;
}

-- the needs of a program on a configuration
unfoldable pub needs_on : Configuration → Workload → Needs
needs_on config p = needs_in config (history config (steps_of p))

-- the path of its run, and the fewest cycles that it takes with these latencies and this width, whatever else is there
unfoldable pub path_on : Configuration → Workload → List Link
path_on config p = path_of config (history config (steps_of p))

unfoldable pub floor_on : Configuration → Workload → ℕ
floor_on config p = floor_of (latency_of config) config.width (steps_of p)
