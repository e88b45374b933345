-- Configurations with another number of a part, or with another option: they are within the limits.
use Rattle.std.proofs.Common.{◌≡◌, ◌<◌, ℕ, suc, arith, refl, List, [], ◌∷◌, length, get_or}
use Rattle.std.proofs.Common.{true}
use Rattle.std.specs.Prelude.{slice_index, nat_le}
use Rattle.std.proofs.lemmas.Bool.Decides.{nat_tests}
use Rattle.std.proofs.lemmas.Grind.{common_steps}
use Rattle.std.proofs.lemmas.List.Elements.{All-get_or, All-set}
use Rattle.tomex_rvdec.proofs.Places.{unit_low}
use Rattle.tomex_rvdec.specs.Places.{place_of_pool, place_of_unit}
use Rattle.tomex_rvdec.specs.declared.pool.PoolId.{PoolId}
use Rattle.tomex_rvdec.specs.declared.pool.UnitId.{UnitId}
use Rattle.tomex_rvdec.specs.declared.pool.UnitId.TheVariants as units
use Rattle.tomex_config.specs.Configuration.{Configuration, IsWithinLimits, is_between, is_option, most_units}
use Rattle.tomex_config.specs.Configuration.{option_of}
use Rattle.tomex_config.specs.Configuration.{plain_option, with_buses, with_option, with_stations, with_width}
use Rattle.tomex_config.specs.declared.config.UnitOption.{UnitOption}
use Rattle.tomex_config.proofs.Ranges.{fits_any, one_branch_unit}
use Rattle.tomex_config.specs.Configuration.{latency_of}
use Rattle.tomex_config.specs.declared.part.Part.{Part}
use Rattle.tomex_config.specs.declared.part.Part.TheVariants.{Stations, Units, Buses, Width}
use Rattle.tomex_config.specs.Parts.{most_of}
use Rattle.tomex_config.specs.Parts.{with_count}

-- the limits

pub option_within : (c : Configuration) (unit : UnitId) (o : UnitOption) → IsWithinLimits c
    → is_option (most_units unit) o ≡ true → IsWithinLimits (with_option unit c o)
option_within c unit o w fits = record {
  pools = w.pools;
  stations = w.stations;
  kinds = grind (arith, common_steps, w.kinds);
  units = All-set (λ o. is_option 8 o ≡ true) c.units (place_of_unit unit) o (fits_any unit o fits) w.units;
  branch_unit = one_branch_unit unit o c.units fits w.kinds w.branch_unit;
  buses = w.buses;
  width = w.width;
}

pub stations_within : (c : Configuration) (pool : PoolId) (n : ℕ) → IsWithinLimits c → is_between 1 16 n ≡ true
    → IsWithinLimits (with_stations pool c n)
stations_within c pool n w fits = record {
  pools = grind (arith, common_steps, w.pools);
  stations = All-set (λ n. is_between 1 16 n ≡ true) c.stations (place_of_pool pool) n fits w.stations;
  kinds = w.kinds;
  units = w.units;
  branch_unit = w.branch_unit;
  buses = w.buses;
  width = w.width;
}

pub buses_within : (c : Configuration) (n : ℕ) → IsWithinLimits c → is_between 1 8 n ≡ true
    → IsWithinLimits (with_buses c n)
buses_within c n w fits = record {
  pools = w.pools;
  stations = w.stations;
  kinds = w.kinds;
  units = w.units;
  branch_unit = w.branch_unit;
  buses = fits;
  width = w.width;
}

pub width_within : (c : Configuration) (n : ℕ) → IsWithinLimits c → is_between 1 4 n ≡ true
    → IsWithinLimits (with_width c n)
width_within c n w fits = record {
  pools = w.pools;
  stations = w.stations;
  kinds = w.kinds;
  units = w.units;
  branch_unit = w.branch_unit;
  buses = w.buses;
  width = fits;
}

-- the option of a kind of unit is within them
pub own_option : (c : Configuration) (unit : UnitId) → IsWithinLimits c → is_option 8 (option_of c unit) ≡ true
own_option c unit w =
    All-get_or (λ o. is_option 8 o ≡ true) c.units (place_of_unit unit) plain_option
    (let l = unit_low unit in omega (arith, w.kinds)) w.units

-- with another number of units, and another price
pub other_units : (c : Configuration) (unit : UnitId) (n price : ℕ) → IsWithinLimits c
    → is_between 1 (most_units unit) n ≡ true → nat_le price 1000000 ≡ true
    → is_option (most_units unit) (record { units = n; latency = latency_of c unit; price = price }) ≡ true
other_units c unit n price w fits low =
    let o = own_option c unit w in
    grind (arith, nat_tests, o)

pub own_price : (c : Configuration) (unit : UnitId) → IsWithinLimits c → nat_le (option_of c unit).price 1000000 ≡ true
own_price c unit w = let o = own_option c unit w in grind (arith, nat_tests, o)

pub count_within : (c : Configuration) (part : Part) (n : ℕ) → IsWithinLimits c → is_between 1 (most_of part) n ≡ true
    → IsWithinLimits (with_count c part n)
count_within c (Stations pool) n w fits = stations_within c pool n w fits
count_within c (Units unit) n w fits =
    option_within c unit _ w (other_units c unit n (option_of c unit).price w fits (own_price c unit w))
count_within c Buses n w fits = buses_within c n w fits
count_within c Width n w fits = width_within c n w fits
