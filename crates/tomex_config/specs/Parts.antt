-- The parts of a machine, and the entries that configurations have in their lists: a study has a list for each part,
-- of stations of a pool, of options for a kind of unit, of buses, or of widths.
use Rattle.std.specs.Prelude.{ℕ, ◌==◌, Bool, not, List, [], ◌∷◌, slice_index_or}
use Rattle.std.specs.List.{filter}
use Rattle.tomex_rvdec.specs.declared.pool.PoolId.TheVariants as pools
use Rattle.tomex_rvdec.specs.declared.pool.UnitId.TheVariants as units
use Rattle.tomex_config.specs.Configuration.{Configuration, latency_of, most_units, option_of, same_option}
use Rattle.tomex_config.specs.Configuration.{stations_of, with_buses, with_option, with_stations, with_width}
use Rattle.tomex_config.specs.declared.likeness.Likeness.{Likeness}
use Rattle.tomex_config.specs.declared.likeness.Likeness.TheVariants.{Entry, Latency}
use Rattle.tomex_config.specs.declared.part.Part.{Part}
use Rattle.tomex_config.specs.declared.part.Part.TheVariants.{Stations, Units, Buses, Width}

-- the number of a part that a configuration has
abbrev pub count_of : Configuration → Part → ℕ
count_of config (Stations pool) = stations_of config pool
count_of config (Units unit) = (option_of config unit).units
count_of config Buses = config.buses
count_of config Width = config.width

-- all parts, in the order in which reports list them
abbrev pub all_parts : List Part
all_parts =
    Stations pools.Alu ∷ Stations pools.Mul ∷ Stations pools.Div ∷ Stations pools.Load ∷ Stations pools.Store
    ∷ Stations pools.Bru ∷ Units units.Alu ∷ Units units.Mul ∷ Units units.Div ∷ Units units.Mem ∷ Units units.Bru
    ∷ Buses ∷ Width ∷ []

-- the part of the list at a place, from 0 to 12
abbrev pub part_at : ℕ → Part
part_at place = slice_index_or all_parts place Width

-- the most of a part that a machine can have
abbrev pub most_of : Part → ℕ
most_of (Stations pool) = 16
most_of (Units unit) = most_units unit
most_of Buses = 8
most_of Width = 4

-- the latency of a kind of unit; other parts have none
abbrev pub latency_in : Part → Configuration → ℕ
latency_in (Units unit) config = latency_of config unit
latency_in part config = 0

-- two configurations have the same entry in a part's list
abbrev pub same_entry : Configuration → Configuration → Part → Bool
same_entry a b (Units unit) = same_option (option_of a unit) (option_of b unit)
same_entry a b part = count_of a part == count_of b part

-- or one of the same latency
abbrev pub same_latency : Part → Configuration → Configuration → Bool
same_latency part a b = latency_in part a == latency_in part b

-- what is asked for is the same in both
abbrev pub is_like : Likeness → Configuration → Configuration → Bool
is_like (Entry part) a b = same_entry a b part
is_like (Latency part) a b = same_latency part a b

-- the first of all configurations that are alike
abbrev pub firsts : (Configuration → Configuration → Bool) → List Configuration → List Configuration
firsts are_alike [] = []
firsts are_alike (c ∷ rows) = c ∷ filter (λ d. not (are_alike c d)) (firsts are_alike rows)

-- the first configurations with each entry of a part's list: they have all entries, each once
abbrev pub entries_in : Part → List Configuration → List Configuration
entries_in part rows = firsts (λ a b. same_entry a b part) rows

-- a configuration with another number of a part; the latency and the price of units stay
abbrev pub with_count : Configuration → Part → ℕ → Configuration
with_count c (Stations pool) n = with_stations pool c n
with_count c (Units unit) n =
    with_option unit c (record { units = n; latency = latency_of c unit; price = (option_of c unit).price })
with_count c Buses n = with_buses c n
with_count c Width n = with_width c n
