-- Worked configurations, as tests of the definitions: the order of a grid, its refusals, and costs.
use Rattle.std.proofs.Common.{◌≡◌, ℕ, false, List, [], ◌∷◌, map, replicate, refl}
use Rattle.std.specs.Prelude.{Err}
use Rattle.tomex_rvdec.specs.declared.pool.PoolId.TheVariants.{Alu}
use Rattle.tomex_config.specs.declared.product.GridError.TheVariants.{EmptyAxis, OutOfRange, TooMany}
use Rattle.tomex_config.specs.Configuration.{Configuration, plain, plain_option, stations_of}
use Rattle.tomex_config.specs.Cost.{PriceList, cost_of}
use Rattle.tomex_config.specs.Grid.{Lists, rows_of, lengths, has_empty, in_range, is_above_limit, grid_of}

-- one value for each part
abbrev single : Lists
single =
    let one : List ℕ = 1 ∷ [] in
    let free = plain_option ∷ [] in
    record {
      alu = one;
      mul = one;
      div = one;
      load = one;
      store = one;
      bru = one;
      alu_units = free;
      mul_units = free;
      div_units = free;
      mem_units = free;
      bru_units = free;
      buses = one;
      width = one;
    }

one_config : rows_of single ≡ plain ∷ []
unfolding rows_of
one_config = refl

-- the buses vary faster than the alu stations
abbrev stations_and_buses : Lists
stations_and_buses = record single { alu = 1 ∷ 2 ∷ []; buses = 1 ∷ 3 ∷ [] }

last_axis_fastest : map {B = ℕ × ℕ} (λ config. (stations_of config Alu, config.buses)) (rows_of stations_and_buses)
    ≡ (1, 1) ∷ (1, 3) ∷ (2, 1) ∷ (2, 3) ∷ []
unfolding rows_of
last_axis_fastest = refl

-- a value that occurs twice
value_twice : rows_of (record single { mul = 1 ∷ 1 ∷ [] }) ≡ plain ∷ plain ∷ []
unfolding rows_of
value_twice = refl

-- the width varies faster than the buses
width_fastest : map {B = ℕ × ℕ} (λ config. (config.buses, config.width))
    (rows_of (record single { buses = 1 ∷ 3 ∷ []; width = 4 ∷ 2 ∷ [] }))
    ≡ (1, 4) ∷ (1, 2) ∷ (3, 4) ∷ (3, 2) ∷ []
unfolding rows_of
width_fastest = refl

-- a station of the alu pool at 10, of the mul pool at 100, and a bus at 7
abbrev prices : PriceList
prices = record { stations = 10 ∷ 100 ∷ 0 ∷ 0 ∷ 0 ∷ 0 ∷ []; bus = 7; width = 0 }

abbrev priced_rows : Lists
priced_rows = record single { alu = 2 ∷ 1 ∷ []; buses = 2 ∷ []; mul_units = record plain_option { price = 50 } ∷ [] }

costs : map (λ config. cost_of config prices) (rows_of priced_rows) ≡ 184 ∷ 174 ∷ []
unfolding rows_of
costs = refl

-- with the price of the width at 1000, a width of 1 and one of 4
width_costs : map (λ config. cost_of config (record prices { width = 1000 }))
    (rows_of (record priced_rows { alu = 1 ∷ []; width = 1 ∷ 4 ∷ [] })) ≡ 1174 ∷ 4174 ∷ []
unfolding rows_of
width_costs = refl

-- the greatest cost: 6 pools of 16, 5 options, 8 buses and a width of 4, all at 1,000,000
abbrev dearest : Configuration
dearest =
    let option = record plain_option { price = 1000000 } in
    record { stations = replicate 6 16; units = option ∷ option ∷ option ∷ option ∷ option ∷ []; buses = 8; width = 4 }

greatest_cost : cost_of dearest (record { stations = replicate 6 1000000; bus = 1000000; width = 1000000 }) ≡ 113000000
greatest_cost = refl

-- an empty axis is reported before a value that is out of range
empty_first : grid_of (record single { alu = 17 ∷ []; buses = [] }) ≡ Err EmptyAxis
unfolding grid_of has_empty
empty_first = refl

-- and that before too many configurations
abbrev sixteen : List ℕ
sixteen = replicate 16 1

range_second : grid_of (record single { alu = sixteen; mul = sixteen; div = sixteen; buses = 1 ∷ 1 ∷ 1 ∷ 1 ∷ 9 ∷ [] })
    ≡ Err OutOfRange
unfolding grid_of has_empty in_range
range_second = refl

too_many : grid_of (record single { alu = sixteen; mul = sixteen; div = sixteen; buses = replicate 5 1 }) ≡ Err TooMany
unfolding grid_of has_empty in_range is_above_limit
too_many = refl

two_branch_units : grid_of (record single { bru_units = record plain_option { units = 2 } ∷ [] }) ≡ Err OutOfRange
unfolding grid_of has_empty in_range
two_branch_units = refl

five_wide : grid_of (record single { width = 5 ∷ [] }) ≡ Err OutOfRange
unfolding grid_of has_empty in_range
five_wide = refl

-- 16 * 16 * 16 * 4 configurations aren't too many
most_rows : is_above_limit (lengths
    (record single { alu = sixteen; mul = sixteen; div = sixteen; buses = replicate 4 1 })) ≡ false
unfolding is_above_limit
most_rows = refl
