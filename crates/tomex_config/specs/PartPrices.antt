-- Prices and costs, part by part.
use Rattle.std.specs.Prelude.{ℕ, ◌*◌}
use Rattle.tomex_config.specs.Configuration.{Configuration, option_of}
use Rattle.tomex_config.specs.Cost.{PriceList, price_of}
use Rattle.tomex_config.specs.Parts.{count_of}
use Rattle.tomex_config.specs.declared.part.Part.{Part}
use Rattle.tomex_config.specs.declared.part.Part.TheVariants.{Stations, Units, Buses, Width}

-- the price of one more of a part; a unit option has none
abbrev pub price_of_part : PriceList → Part → ℕ
price_of_part prices (Stations pool) = price_of prices pool
price_of_part prices (Units unit) = 0
price_of_part prices Buses = prices.bus
price_of_part prices Width = prices.width

-- the cost of a configuration's entry in a part's list: a unit option as a whole, otherwise the count times the price
abbrev pub cost_of_part : PriceList → Configuration → Part → ℕ
cost_of_part prices config (Units unit) = (option_of config unit).price
cost_of_part prices config part = count_of config part * price_of_part prices part
