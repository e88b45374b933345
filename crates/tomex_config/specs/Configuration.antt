-- A configuration of the machine: its parts, and their limits.
use Rattle.std.specs.Prelude.{◌≡◌, ℕ, ◌&&◌, ◌==◌, Bool, true, nat_le, List, [], ◌∷◌, length}
use Rattle.std.specs.Prelude.{slice_index, slice_index_or, slice_set, All}
use Rattle.tomex_rvdec.specs.Places.{place_of_pool, place_of_unit}
use Rattle.tomex_rvdec.specs.declared.pool.PoolId.{PoolId}
use Rattle.tomex_rvdec.specs.declared.pool.UnitId.{UnitId}
use Rattle.tomex_rvdec.specs.declared.pool.UnitId.TheVariants.{Bru}
use Rattle.tomex_config.specs.declared.config.UnitOption.{UnitOption}

-- the reservation stations of each pool and the chosen option for each kind of unit, both in their order, the common
-- data buses, and the issue width: the most instructions that issue in a cycle
pub record Configuration : Type 0 where
  pub stations : List ℕ
  pub units : List UnitOption
  pub buses : ℕ
  pub width : ℕ

abbrev pub config_of : List ℕ → List UnitOption → (buses width : ℕ) → Configuration
config_of stations units buses width =
    record { stations = stations; units = units; buses = buses; width = width }

abbrev pub is_between : ℕ → ℕ → ℕ → Bool
is_between low high n = nat_le low n && nat_le n high

-- an option within the limits, with at most `most` units
abbrev pub is_option : ℕ → UnitOption → Bool
is_option most o = is_between 1 most o.units && is_between 1 64 o.latency && nat_le o.price 1000000

-- there is only one branch unit
abbrev pub most_units : UnitId → ℕ
most_units Bru = 1
most_units unit = 8

-- units, latency and price are equal
abbrev pub same_option : UnitOption → UnitOption → Bool
same_option a b = a.units == b.units && a.latency == b.latency && a.price == b.price

-- one unit of latency 1 and price 0
abbrev pub plain_option : UnitOption
plain_option = record { units = 1; latency = 1; price = 0 }

abbrev pub stations_of : Configuration → PoolId → ℕ
stations_of config pool = slice_index config.stations (place_of_pool pool)

abbrev pub option_of : Configuration → UnitId → UnitOption
option_of config unit = slice_index_or config.units (place_of_unit unit) plain_option

abbrev pub latency_of : Configuration → UnitId → ℕ
latency_of config unit = (option_of config unit).latency

-- within the limits
pub record IsWithinLimits (config : Configuration) : Type 0 where
  pub pools : length config.stations ≡ 6
  pub stations : All (λ n. is_between 1 16 n ≡ true) config.stations
  pub kinds : length config.units ≡ 5
  pub units : All (λ o. is_option 8 o ≡ true) config.units
  pub branch_unit : (option_of config Bru).units ≡ 1
  pub buses : is_between 1 8 config.buses ≡ true
  pub width : is_between 1 4 config.width ≡ true

-- one of each part
abbrev pub plain : Configuration
plain = record {
  stations = 1 ∷ 1 ∷ 1 ∷ 1 ∷ 1 ∷ 1 ∷ [];
  units = plain_option ∷ plain_option ∷ plain_option ∷ plain_option ∷ plain_option ∷ [];
  buses = 1;
  width = 1;
}

-- the configuration with another part
abbrev pub with_stations : PoolId → Configuration → ℕ → Configuration
with_stations pool config n = record config { stations = slice_set config.stations (place_of_pool pool) n }

abbrev pub with_option : UnitId → Configuration → UnitOption → Configuration
with_option unit config option = record config { units = slice_set config.units (place_of_unit unit) option }

abbrev pub with_buses : Configuration → ℕ → Configuration
with_buses config n = record config { buses = n }

abbrev pub with_width : Configuration → ℕ → Configuration
with_width config n = record config { width = n }
