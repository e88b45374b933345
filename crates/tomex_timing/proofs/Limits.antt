-- Pools and kinds of units are known by their places; and the limits of a configuration, as inequations.
use Rattle.std.proofs.Common.{ℕ, ◌≡◌, ◌∙◌, true, ap, refl, sym, ◌<◌, ◌≤◌, arith, Option, Some, None}
use Rattle.std.specs.Prelude.{◌==◌, if◌then◌else◌}
use Rattle.std.proofs.lemmas.Bool.{eqb-true, and_parts}
use Rattle.std.proofs.lemmas.Bool.Decides.{nat_tests}
use Rattle.tomex_rvdec.proofs.Places.{pool_low, unit_low}
use Rattle.tomex_rvdec.specs.Places.{place_of_pool, place_of_unit}
use Rattle.tomex_rvdec.specs.declared.pool.PoolId.{PoolId}
use Rattle.tomex_rvdec.specs.declared.pool.PoolId.TheVariants as pools
use Rattle.tomex_rvdec.specs.declared.pool.UnitId.{UnitId}
use Rattle.tomex_rvdec.specs.declared.pool.UnitId.TheVariants as units
use Rattle.tomex_config.specs.Configuration.{Configuration, IsWithinLimits, is_between, is_option, stations_of}
use Rattle.tomex_config.specs.Configuration.{option_of, plain_option}
use Rattle.tomex_rvexec.specs.Steps.{is_in}
use Rattle.tomex_timing.specs.History.{is_of}

abbrev pool_at : ℕ → PoolId
pool_at n = if n == 0 then pools.Alu else (if n == 1 then pools.Mul else (if n == 2 then pools.Div else
    (if n == 3 then pools.Load else (if n == 4 then pools.Store else pools.Bru))))

abbrev unit_at : ℕ → UnitId
unit_at n = if n == 0 then units.Alu else
    (if n == 1 then units.Mul else (if n == 2 then units.Div else (if n == 3 then units.Mem else units.Bru)))

pool_place : (pool : PoolId) → pool_at (place_of_pool pool) ≡ pool
pool_place pools.Alu = refl
pool_place pools.Mul = refl
pool_place pools.Div = refl
pool_place pools.Load = refl
pool_place pools.Store = refl
pool_place pools.Bru = refl

unit_place : (unit : UnitId) → unit_at (place_of_unit unit) ≡ unit
unit_place units.Alu = refl
unit_place units.Mul = refl
unit_place units.Div = refl
unit_place units.Mem = refl
unit_place units.Bru = refl

pub same_pool : (p q : PoolId) → (place_of_pool p == place_of_pool q) ≡ true → p ≡ q
same_pool p q e = sym (pool_place p) ∙ (ap pool_at (eqb-true (place_of_pool p) (place_of_pool q) e) ∙ pool_place q)

pub same_unit : (p q : UnitId) → (place_of_unit p == place_of_unit q) ≡ true → p ≡ q
same_unit p q e = sym (unit_place p) ∙ (ap unit_at (eqb-true (place_of_unit p) (place_of_unit q) e) ∙ unit_place q)

pub pool_is : (pool : PoolId) (x : Option PoolId) → is_in pool x ≡ true → x ≡ Some pool
pool_is pool None e = absurd (cc)
pool_is pool (Some p) e = ap Some (same_pool p pool e)

pub unit_is : (unit : UnitId) (x : Option UnitId) → is_of unit x ≡ true → x ≡ Some unit
unit_is unit None e = absurd (cc)
unit_is unit (Some p) e = ap Some (same_unit p unit e)

pub between : (low high n : ℕ) → is_between low high n ≡ true → (low ≤ n) × (n ≤ high)
between low high n h = grind (arith, nat_tests)

stations_are : (config : Configuration) (pool : PoolId) → IsWithinLimits config
    → (1 ≤ stations_of config pool) × (stations_of config pool ≤ 16)
stations_are config pool good =
    between 1 16 (stations_of config pool) (good.stations (place_of_pool pool) 0 (rw good.pools (pool_low pool)))

option_is : (config : Configuration) (unit : UnitId) → IsWithinLimits config
    → is_option 8 (option_of config unit) ≡ true
option_is config unit good = good.units (place_of_unit unit) plain_option (rw good.kinds (unit_low unit))

units_are : (config : Configuration) (unit : UnitId) → IsWithinLimits config
    → (1 ≤ (option_of config unit).units) × ((option_of config unit).units ≤ 8)
units_are config unit good =
    between 1 8 (option_of config unit).units (and_parts _ _ (and_parts _ _ (option_is config unit good)).0).0

latency_is : (config : Configuration) (unit : UnitId) → IsWithinLimits config
    → (1 ≤ (option_of config unit).latency) × ((option_of config unit).latency ≤ 64)
latency_is config unit good =
    between 1 64 (option_of config unit).latency (and_parts _ _ (and_parts _ _ (option_is config unit good)).0).1

pub stations_low : (config : Configuration) (pool : PoolId) → IsWithinLimits config → 0 < stations_of config pool
stations_low config pool good = omega (arith, (stations_are config pool good).0)

pub stations_high : (config : Configuration) (pool : PoolId) → IsWithinLimits config → stations_of config pool ≤ 16
stations_high config pool good = (stations_are config pool good).1

pub units_low : (config : Configuration) (unit : UnitId) → IsWithinLimits config → 0 < (option_of config unit).units
units_low config unit good = omega (arith, (units_are config unit good).0)

pub units_high : (config : Configuration) (unit : UnitId) → IsWithinLimits config → (option_of config unit).units ≤ 8
units_high config unit good = (units_are config unit good).1

pub latency_low : (config : Configuration) (unit : UnitId) → IsWithinLimits config → 0 < (option_of config unit).latency
latency_low config unit good = omega (arith, (latency_is config unit good).0)

pub latency_high : (config : Configuration) (unit : UnitId) → IsWithinLimits config
    → (option_of config unit).latency ≤ 64
latency_high config unit good = (latency_is config unit good).1

pub buses_low : (config : Configuration) → IsWithinLimits config → 0 < config.buses
buses_low config good = omega (arith, (between 1 8 config.buses good.buses).0)

pub buses_high : (config : Configuration) → IsWithinLimits config → config.buses ≤ 8
buses_high config good = (between 1 8 config.buses good.buses).1

pub width_low : (config : Configuration) → IsWithinLimits config → 0 < config.width
width_low config good = omega (arith, (between 1 4 config.width good.width).0)
