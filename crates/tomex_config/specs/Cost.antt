-- The cost of a configuration.
use Rattle.std.specs.Prelude.{◌≡◌, ℕ, ◌+◌, ◌*◌, Bool, true, nat_le, List, [], ◌∷◌, length, slice_index, sum_by, All}
use Rattle.tomex_rvdec.specs.Places.{place_of_pool}
use Rattle.tomex_rvdec.specs.declared.pool.PoolId.{PoolId}
use Rattle.tomex_rvdec.specs.declared.pool.PoolId.TheVariants as pools
use Rattle.tomex_rvdec.specs.declared.pool.UnitId.{UnitId}
use Rattle.tomex_rvdec.specs.declared.pool.UnitId.TheVariants as units
use Rattle.tomex_config.specs.Configuration.{Configuration, stations_of, option_of}

-- the price of a station of each pool, in their order, that of a bus, and that of each instruction that
-- may issue in a cycle
pub record PriceList : Type 0 where
  pub stations : List ℕ
  pub bus : ℕ
  pub width : ℕ

abbrev pub is_price : ℕ → Bool
is_price n = nat_le n 1000000

pub record IsPriceList (prices : PriceList) : Type 0 where
  pub pools : length prices.stations ≡ 6
  pub stations : All (λ n. is_price n ≡ true) prices.stations
  pub bus : is_price prices.bus ≡ true
  pub width : is_price prices.width ≡ true

abbrev pub price_of : PriceList → PoolId → ℕ
price_of prices pool = slice_index prices.stations (place_of_pool pool)

abbrev pub all_pools : List PoolId
all_pools = pools.Alu ∷ pools.Mul ∷ pools.Div ∷ pools.Load ∷ pools.Store ∷ pools.Bru ∷ []

abbrev pub all_units : List UnitId
all_units = units.Alu ∷ units.Mul ∷ units.Div ∷ units.Mem ∷ units.Bru ∷ []

abbrev pub stations_cost : Configuration → PriceList → ℕ
stations_cost config prices = sum_by (λ pool. stations_of config pool * price_of prices pool) all_pools

abbrev pub options_cost : Configuration → ℕ
options_cost config = sum_by (λ unit. (option_of config unit).price) all_units

-- each pool's stations times its price, the prices of the chosen options, the buses times the
-- price of a bus, and the width times its price
abbrev pub cost_of : Configuration → PriceList → ℕ
cost_of config prices =
    stations_cost config prices + options_cost config + config.buses * prices.bus + config.width * prices.width
