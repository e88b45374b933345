-- Prices, intervals and percentages of some rows, computed by the definitions themselves: the rows of
-- examples/study.toml, an alu station at 10, the fast multiplier at 40, the slow one at 15, a bus at 25.
use Rattle.std.proofs.Common.{◌≡◌, refl, ℕ, List, [], ◌∷◌, map}
use Rattle.std.specs.Prelude.{codes, false}
use Rattle.std.specs.Fmt.{digits}
use Rattle.tomex_rvdec.specs.declared.pool.PoolId.TheVariants as pools
use Rattle.tomex_rvdec.specs.declared.pool.UnitId.TheVariants as units
use Rattle.tomex_config.specs.Configuration.{Configuration, plain_option}
use Rattle.tomex_config.specs.Cost.{PriceList}
use Rattle.tomex_config.specs.declared.config.UnitOption.{UnitOption}
use Rattle.tomex_pareto.specs.Front.{rows_from}
use Rattle.tomex_pareto.specs.declared.front_row.FrontRow.{FrontRow}
use Rattle.tomex_layout.specs.RowColumns.{percent_text}
use Rattle.tomex_pareto.specs.Percent.{least_of}
use Rattle.tomex_study.specs.Study.{DesignSpace, costs_of}
use Rattle.tomex_prices.specs.declared.intervals.PriceRange.{PriceRange}
use Rattle.tomex_prices.specs.declared.price.Price.{Price}
use Rattle.tomex_prices.specs.declared.price.Price.TheVariants.{Station, Choice, Bus, Width}
use Rattle.tomex_prices.specs.Interval.{interval, range_text}
use Rattle.tomex_prices.specs.Percent.{difference, percent_for}
use Rattle.tomex_prices.specs.Price.{name_of_price}
use Rattle.tomex_prices.specs.Prices.{choices_of, is_relevant, prices_of, relevant_prices_of}
use Rattle.tomex_prices.specs.Repriced.{priced_from, with_price_apart}

abbrev option : ℕ → ℕ → UnitOption
option latency price = record { units = 1; latency = latency; price = price }

abbrev fast : UnitOption
fast = option 3 40

abbrev slow : UnitOption
slow = option 6 15

abbrev config : ℕ → UnitOption → ℕ → Configuration
config alu mul buses = record {
  stations = alu ∷ 1 ∷ 1 ∷ 1 ∷ 1 ∷ 1 ∷ [];
  units = plain_option ∷ mul ∷ plain_option ∷ plain_option ∷ plain_option ∷ [];
  buses = buses;
  width = 1;
}

abbrev rows : List Configuration
rows =
    config 1 fast 1 ∷ config 1 fast 2 ∷ config 1 slow 1 ∷ config 1 slow 2 ∷ config 2 fast 1 ∷ config 2 fast 2
    ∷ config 2 slow 1 ∷ config 2 slow 2 ∷ config 4 fast 1 ∷ config 4 fast 2 ∷ config 4 slow 1 ∷ config 4 slow 2 ∷ []

abbrev list : PriceList
list = record { stations = 10 ∷ 0 ∷ 0 ∷ 0 ∷ 0 ∷ 0 ∷ []; bus = 25; width = 0 }

abbrev cycles : List ℕ
cycles = 10 ∷ 10 ∷ 13 ∷ 13 ∷ 8 ∷ 8 ∷ 11 ∷ 11 ∷ 8 ∷ 8 ∷ 11 ∷ 11 ∷ []

abbrev study : DesignSpace
study = record { programs = []; rows = rows; costs = costs_of list rows; prices = list; wide = false }

costs : costs_of list rows ≡ 75 ∷ 100 ∷ 50 ∷ 75 ∷ 85 ∷ 110 ∷ 60 ∷ 85 ∷ 105 ∷ 130 ∷ 80 ∷ 105 ∷ []
costs = refl

-- the prices that rows pay differently often
relevant : map name_of_price (relevant_prices_of study)
    ≡ codes "alu" ∷ codes "mul:1@3" ∷ codes "mul:1@6" ∷ codes "bus" ∷ []
unfolding relevant_prices_of prices_of choices_of is_relevant digits
relevant = refl

-- the values of a price for which a row stays
abbrev range_of : Price → ℕ → Configuration → ℕ → PriceRange
range_of price n c y =
    interval (with_price_apart price list n c y) (priced_from price list 0 rows cycles)

abbrev texts : ℕ → Configuration → ℕ → List (List ℕ)
texts n c y =
    map (λ price. range_text (range_of price n c y))
    (Station pools.Alu ∷ Choice units.Mul fast ∷ Choice units.Mul slow ∷ Bus ∷ Width ∷ [])

second : texts 2 (config 1 slow 1) 13 ≡ codes "1.." ∷ codes "16.." ∷ codes "..39" ∷ codes "any" ∷ codes "any" ∷ []
unfolding digits
second = refl

sixth : texts 6 (config 2 slow 1) 11 ≡ codes "..24" ∷ codes "26.." ∷ codes "..29" ∷ codes "any" ∷ codes "any" ∷ []
unfolding digits
sixth = refl

-- the percentage by which all may be wrong
abbrev front_row : ℕ → ℕ → ℕ → FrontRow
front_row n cost y = record { row = n; cost = cost; cycles = y }

abbrev percent_at : ℕ → ℕ → ℕ → List ℕ
percent_at n cost y =
    percent_text (least_of (percent_for study (front_row n cost y)) (rows_from 0 (costs_of list rows) cycles))

percents : percent_at 2 50 13 ∷ percent_at 6 60 11 ∷ percent_at 0 75 10 ∷ percent_at 4 85 8 ∷ []
    ≡ codes "45%" ∷ codes "23%" ∷ codes "99%" ∷ codes "any" ∷ []
unfolding difference prices_of choices_of digits
percents = refl
