-- A study with one price replaced, and the values for which a row of the front stays on the front.
use Rattle.std.specs.Prelude.{◌≡◌, ℕ, ◌≤◌, List, map, slice_index_or}
use Rattle.std.specs.List.{Contains}
use Rattle.tomex_config.specs.Configuration.{Configuration, plain}
use Rattle.tomex_pareto.specs.Front.{is_on}
use Rattle.tomex_pareto.specs.declared.front_row.FrontRow.{FrontRow}
use Rattle.tomex_study.specs.Study.{DesignSpace, IsStudy}
use Rattle.tomex_study.specs.Cycles.{cycles_of}
use Rattle.tomex_study.specs.StudyFront.{front_of_study}
use Rattle.tomex_prices.specs.declared.intervals.PriceRange.{PriceRange}
use Rattle.tomex_prices.specs.declared.price.Price.{Price}
use Rattle.tomex_prices.specs.declared.price.TheConstants.{GREATEST_PRICE}
use Rattle.tomex_pareto.specs.declared.line_row.LineRow.{LineRow}
use Rattle.tomex_prices.specs.Interval.{interval, is_within}
use Rattle.tomex_prices.specs.Repriced.{config_with, costs_with, list_with, priced_from, with_price_apart}

-- the same rows and programs, with that one price replaced by q, and so with other costs
abbrev pub space_with : DesignSpace → Price → ℕ → DesignSpace
space_with s price q = record s {
  rows = map (config_with price q) s.rows;
  costs = costs_with price q s.prices s.rows;
  prices = list_with price q s.prices;
}

-- a row's configuration
abbrev pub config_of : DesignSpace → FrontRow → Configuration
config_of s r = slice_index_or s.rows r.row plain

-- a row with a price apart, and all rows
abbrev pub row_with : DesignSpace → Price → FrontRow → LineRow
row_with s price r = with_price_apart price s.prices r.row (config_of s r) r.cycles

abbrev pub rows_with : DesignSpace → Price → List LineRow
rows_with s price = priced_from price s.prices 0 s.rows (cycles_of s)

-- the values of a price for which a row of the front is on the front, all other prices as stated
abbrev pub interval_of : DesignSpace → Price → FrontRow → PriceRange
interval_of s price r = interval (row_with s price r) (rows_with s price)

-- it is on the front of the study with this price replaced by q exactly if q is within
abbrev pub IsOnStudyExactlyWithin : Type 0
IsOnStudyExactlyWithin = (s : DesignSpace) (price : Price) (q : ℕ) (r : FrontRow) → IsStudy s → q ≤ GREATEST_PRICE
    → Contains (front_of_study s) r
    → is_on (front_of_study (space_with s price q)) r.row ≡ is_within (interval_of s price r) q
