-- The choices that a list lacks, and the new machines that they would bring: each row's with one of them in place of
-- its own entry in this list. All other entries stay.
use Rattle.std.specs.Prelude.{ℕ, ◌==◌, nat_lt, if◌then◌else◌, List, [], ◌∷◌, map}
use Rattle.std.specs.Prelude.{Option, Some, None, unwrap_or}
use Rattle.std.specs.List.{filter, flat_map, list_any, range_with_len}
use Rattle.tomex_rvdec.specs.declared.pool.UnitId.{UnitId}
use Rattle.tomex_config.specs.Configuration.{Configuration, option_of, with_stations, with_option, with_buses}
use Rattle.tomex_config.specs.Configuration.{with_width}
use Rattle.tomex_config.specs.Cost.{cost_of}
use Rattle.tomex_config.specs.declared.config.UnitOption.{UnitOption}
use Rattle.tomex_config.specs.Configuration.{latency_of}
use Rattle.tomex_study.specs.Cycles.{cycles_on}
use Rattle.tomex_study.specs.Study.{DesignSpace}
use Rattle.tomex_config.specs.Parts.{count_of}
use Rattle.tomex_config.specs.declared.part.Part.{Part}
use Rattle.tomex_config.specs.declared.part.Part.TheVariants.{Stations, Units, Buses, Width}
use Rattle.tomex_config.specs.Parts.{firsts, latency_in, most_of, same_latency}
use Rattle.tomex_survey.specs.Extremes.{greatest, least}
use Rattle.tomex_config.specs.Parts.{with_count}
use Rattle.tomex_choices.specs.declared.new_machine.NewMachine.{NewMachine}

-- the options of a latency that rows have for a kind of unit
abbrev pub options_at : List Configuration → UnitId → ℕ → List UnitOption
options_at rows unit latency = filter (λ o. o.latency == latency) (map (λ c. option_of c unit) rows)

-- the most units that one of them has
unfoldable pub greatest_units : List Configuration → UnitId → ℕ → ℕ
greatest_units rows unit latency = greatest (map (λ o. o.units) (options_at rows unit latency))

-- the price of the cheapest that has that number
unfoldable pub least_price : List Configuration → UnitId → ℕ → ℕ
least_price rows unit latency =
    unwrap_or (least (map (λ o. o.price)
    (filter (λ o. o.units == greatest_units rows unit latency) (options_at rows unit latency)))) 0

-- an option that the list lacks: more units than any of this latency has, at the price of the cheapest that has most
abbrev pub more_units : List Configuration → UnitId → ℕ → ℕ → UnitOption
more_units rows unit latency n = record { units = n; latency = latency; price = least_price rows unit latency }

-- a configuration with n of a part in place of its own number, if the list lacks that choice
abbrev pub grown : List Configuration → Part → Configuration → ℕ → Option Configuration
grown rows (Units unit) c n =
    if nat_lt (greatest_units rows unit (latency_of c unit)) n
    then Some (with_option unit c (more_units rows unit (latency_of c unit) n))
    else None
grown rows part c n = if list_any (λ d. count_of d part == n) rows then None else Some (with_count c part n)

-- a new machine of a list, with its cost and its cycles
abbrev pub machine_of : DesignSpace → Part → ℕ → Configuration → NewMachine
machine_of s part n c = record {
  number = n;
  latency = latency_in part c;
  cost = cost_of c s.prices;
  cycles = cycles_on s.programs c;
}

abbrev pub machine_if : DesignSpace → Part → ℕ → Option Configuration → List NewMachine
machine_if s part n None = []
machine_if s part n (Some c) = machine_of s part n c ∷ []

-- those that a configuration brings, by number
unfoldable pub brought_by : DesignSpace → Part → Configuration → List NewMachine
brought_by s part c =
    flat_map (λ n. machine_if s part n (grown s.rows part c n)) (range_with_len 1 (most_of part))

-- all of them
unfoldable pub new_machines : DesignSpace → Part → List NewMachine
new_machines s part = flat_map (brought_by s part) s.rows

abbrev pub configurations_if : Option Configuration → List Configuration
configurations_if None = []
configurations_if (Some c) = c ∷ []

-- the choices that a list lacks, in increasing order; of options for each latency, in the order of the first rows that
-- have it; for each of them a configuration that has it
unfoldable pub lacking : DesignSpace → Part → List Configuration
lacking s part =
    flat_map (λ c. flat_map (λ n. configurations_if (grown s.rows part c n)) (range_with_len 1 (most_of part)))
    (firsts (same_latency part) s.rows)
