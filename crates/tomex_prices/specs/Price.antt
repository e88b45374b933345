-- A price: its stated value, how often a configuration pays it, and its name.
use Rattle.std.specs.Prelude.{ℕ, ◌++◌, codes, if◌then◌else◌, List}
use Rattle.std.specs.Fmt.{decimal}
use Rattle.tomex_rvdec.specs.Places.{name_of_pool, name_of_unit}
use Rattle.tomex_config.specs.Configuration.{Configuration, option_of, same_option, stations_of}
use Rattle.tomex_config.specs.Cost.{PriceList, price_of}
use Rattle.tomex_prices.specs.declared.price.Price.{Price}
use Rattle.tomex_prices.specs.declared.price.Price.TheVariants.{Station, Choice, Bus, Width}

-- how often a configuration pays a price: once for each of its stations of the pool, once or never for an option, once
-- for each of its buses, once for each instruction that may issue in a cycle
abbrev pub payments : Price → Configuration → ℕ
payments (Station pool) config = stations_of config pool
payments (Choice unit o) config = if same_option (option_of config unit) o then 1 else 0
payments Bus config = config.buses
payments Width config = config.width

-- the stated price
abbrev pub amount : Price → PriceList → ℕ
amount (Station pool) prices = price_of prices pool
amount (Choice unit o) prices = o.price
amount Bus prices = prices.bus
amount Width prices = prices.width

-- its name; for an option the kind of unit, the units, and the latency
abbrev pub name_of_price : Price → List ℕ
name_of_price (Station pool) = name_of_pool pool
name_of_price (Choice unit o) = name_of_unit unit ++ codes ":" ++ decimal o.units ++ codes "@" ++ decimal o.latency
name_of_price Bus = codes "bus"
name_of_price Width = codes "width"
