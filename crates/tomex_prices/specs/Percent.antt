-- The percentage by which all prices of a study may be wrong at once, each in its own direction, such that a row
-- stays.
use Rattle.std.specs.Prelude.{ℕ, List}
use Rattle.tomex_config.specs.Configuration.{Configuration}
use Rattle.tomex_config.specs.Cost.{PriceList}
use Rattle.tomex_pareto.specs.declared.front_row.FrontRow.{FrontRow}
use Rattle.tomex_pareto.specs.Percent.{difference_of, least_of, percent_by}
use Rattle.tomex_study.specs.Study.{DesignSpace}
use Rattle.tomex_prices.specs.declared.price.Price.{Price}
use Rattle.tomex_prices.specs.Price.{payments, amount}
use Rattle.tomex_prices.specs.Prices.{prices_of}
use Rattle.tomex_prices.specs.Studies.{config_of}
use Rattle.tomex_study.specs.StudyFront.{all_rows}

-- the cost of the parts that two configurations don't have in common, at these prices: each price as often as one of
-- them pays it more than the other
unfoldable pub difference : PriceList → List Price → Configuration → Configuration → ℕ
difference prices all a b = difference_of (λ price. amount price prices) payments all a b

-- how much dearer a rival is, in percent of this difference
abbrev pub percent_for : DesignSpace → FrontRow → FrontRow → ℕ
percent_for s r j = percent_by (difference s.prices (prices_of s) (config_of s r) (config_of s j)) r j

-- the percentage by which all prices may be wrong such that a row of the front stays: the least of all rivals
unfoldable pub percent_of : DesignSpace → FrontRow → ℕ
percent_of s r = least_of (percent_for s r) (all_rows s)
