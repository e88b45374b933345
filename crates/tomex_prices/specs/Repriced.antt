-- Configurations and a price list with one price replaced, and their costs.
use Rattle.std.specs.Prelude.{◌≡◌, ℕ, ◌+◌, ◌*◌, ◌≤◌, if◌then◌else◌, true, suc, List, [], ◌∷◌, map}
use Rattle.std.specs.Prelude.{All, slice_set}
use Rattle.std.specs.List.{Contains}
use Rattle.tomex_rvdec.specs.Places.{place_of_pool}
use Rattle.tomex_config.specs.Configuration.{Configuration, IsWithinLimits, option_of, with_option}
use Rattle.tomex_config.specs.Cost.{IsPriceList, PriceList, cost_of}
use Rattle.tomex_pareto.specs.Front.{front_of, is_on, rows_from}
use Rattle.tomex_pareto.specs.declared.line_row.LineRow.{LineRow}
use Rattle.tomex_study.specs.Study.{costs_of}
use Rattle.tomex_prices.specs.declared.price.Price.{Price}
use Rattle.tomex_prices.specs.declared.price.Price.TheVariants.{Station, Choice, Bus, Width}
use Rattle.tomex_prices.specs.declared.price.TheConstants.{GREATEST_PRICE}
use Rattle.tomex_prices.specs.Interval.{interval, is_within}
use Rattle.tomex_prices.specs.Price.{payments, amount}
use Rattle.tomex_config.specs.Configuration.{same_option}

-- the list of prices, and a configuration, with this price replaced by q
abbrev pub list_with : Price → ℕ → PriceList → PriceList
list_with (Station pool) q prices = record prices { stations = slice_set prices.stations (place_of_pool pool) q }
list_with (Choice unit o) q prices = prices
list_with Bus q prices = record prices { bus = q }
list_with Width q prices = record prices { width = q }

abbrev pub config_with : Price → ℕ → Configuration → Configuration
config_with (Choice unit o) q config =
    if same_option (option_of config unit) o then with_option unit config (record o { price = q }) else config
config_with price q config = config

-- the cost of a configuration then
abbrev pub cost_with : Price → ℕ → PriceList → Configuration → ℕ
cost_with price q prices config = cost_of (config_with price q config) (list_with price q prices)

-- that is its cost with the price replaced by 0, plus q as often as it pays the price
abbrev pub CostsSplit : Type 0
CostsSplit = (price : Price) (q : ℕ) (prices : PriceList) (config : Configuration) → IsPriceList prices
    → IsWithinLimits config → cost_with price q prices config
    ≡ cost_with price 0 prices config + q * payments price config

-- replaced by its stated value, a price changes no cost
abbrev pub StatedCostsStay : Type 0
StatedCostsStay = (price : Price) (prices : PriceList) (config : Configuration) → IsPriceList prices
    → IsWithinLimits config → cost_with price (amount price prices) prices config ≡ cost_of config prices

-- the costs of configurations with the price replaced
abbrev pub costs_with : Price → ℕ → PriceList → List Configuration → List ℕ
costs_with price q prices configs = costs_of (list_with price q prices) (map (config_with price q) configs)

-- a configuration of this number and these cycles, with a price apart: its cost is a line in the price
abbrev pub with_price_apart : Price → PriceList → ℕ → Configuration → ℕ → LineRow
with_price_apart price prices n config cycles =
    record { row = n; rest = cost_with price 0 prices config; times = payments price config; other = cycles }

-- configurations of these cycles, numbered from n on
abbrev pub priced_from : Price → PriceList → ℕ → List Configuration → List ℕ → List LineRow
priced_from price prices n (c ∷ cs) (y ∷ ys) =
    with_price_apart price prices n c y ∷ priced_from price prices (suc n) cs ys
priced_from price prices n _ _ = []

-- a row of the front is on the front of the same configurations with one price replaced by q exactly if q is within its
-- interval
abbrev pub IsOnRepricedExactlyWithin : Type 0
IsOnRepricedExactlyWithin = (price : Price) (prices : PriceList) (configs : List Configuration) (cycles : List ℕ)
    (q : ℕ) (r : LineRow) → IsPriceList prices → All IsWithinLimits configs → q ≤ GREATEST_PRICE
    → Contains (priced_from price prices 0 configs cycles) r
    → is_on (front_of (rows_from 0 (costs_of prices configs) cycles)) r.row ≡ true
    → is_on (front_of (rows_from 0 (costs_with price q prices configs) cycles)) r.row
    ≡ is_within (interval r (priced_from price prices 0 configs cycles)) q
