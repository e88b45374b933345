-- The prices with which a row stays on the front, as `prices` gives them.
use Rattle.std.specs.Prelude.{◌≡◌, ℕ, nat_lt, if◌then◌else◌, List, [], ◌∷◌, ◌++◌, codes, length, map}
use Rattle.std.specs.Prelude.{slice_index_or, take}
use Rattle.std.specs.Fmt.{decimal}
use Rattle.std.specs.List.{flat_map}
use Rattle.tomex_html.specs.Html.{table_end, td}
use Rattle.tomex_pareto.specs.declared.front_row.FrontRow.{FrontRow}
use Rattle.tomex_study.specs.Study.{DesignSpace}
use Rattle.tomex_prices.specs.Interval.{range_text}
use Rattle.tomex_prices.specs.Percent.{percent_of}
use Rattle.tomex_prices.specs.Price.{name_of_price, amount}
use Rattle.tomex_prices.specs.Prices.{prices_of, relevant_prices_of}
use Rattle.tomex_prices.specs.Studies.{interval_of}
use Rattle.tomex_prices.specs.declared.intervals.PriceRange.{PriceRange}
use Rattle.tomex_prices.specs.declared.price.Price.{Price}
use Rattle.tomex_html.specs.Tables.{number_cell, table_head, table_row}
use Rattle.tomex_page_tables.specs.Pieces.{more, most_lines}

-- a price: its name, its stated value, and the range in which a row stays on the front
unfoldable pub range_row : Price → ℕ → PriceRange → List ℕ
range_row price now range = table_row (name_of_price price) (number_cell now ++ td (range_text range))

unfoldable pub price_row : DesignSpace → FrontRow → Price → List ℕ
price_row s r price = range_row price (amount price s.prices) (interval_of s price r)

unfoldable pub up_to : ℕ → List ℕ
up_to percent = codes "<p>It stays if every price is off by up to " ++ (decimal percent ++ codes "%.</p></div>\n")

unfoldable pub whatever : List ℕ
whatever = codes "<p>It stays whatever the prices are.</p></div>\n"

-- by how many percent all prices may be off at once; 100 means any percentage
unfoldable pub off_text : ℕ → List ℕ
off_text percent = if nat_lt percent 100 then up_to percent else whatever

-- the prices that are shown
unfoldable pub shown_prices : DesignSpace → List Price
shown_prices s = take most_lines (relevant_prices_of s)

abbrev pub price_names : List (List ℕ)
price_names = codes "Price" ∷ codes "Now" ∷ codes "Stays" ∷ []

unfoldable pub prices_table : DesignSpace → FrontRow → List ℕ
prices_table s r =
    codes "<div>" ++ (table_head (codes " class=\"a\"") (codes "Prices with which it stays") price_names
    ++ (flat_map (price_row s r) (shown_prices s)
    ++ (table_end ++ (more (codes "prices") (length (relevant_prices_of s)) ++ off_text (percent_of s r)))))

-- a price's results for all rows that are shown, computed only once: its stated value, and a range for each row
pub record PriceRanges : Type 0 where
  pub price : Price
  pub stated : ℕ
  pub ranges : List PriceRange

abbrev pub ranges_of : DesignSpace → List FrontRow → Price → PriceRanges
ranges_of s shown price =
    record { price = price; stated = amount price s.prices; ranges = map (interval_of s price) shown }

abbrev pub no_range : PriceRange
no_range = record { least = 0; most = 0 }

-- the line of a price for the row at a place
unfoldable pub range_row_at : ℕ → PriceRanges → List ℕ
range_row_at place p = range_row p.price p.stated (slice_index_or p.ranges place no_range)

-- the prices of a study, how many of them are relevant, and the ranges of those that are shown
pub record PricesFound : Type 0 where
  pub prices : List Price
  pub relevant : ℕ
  pub ranges : List PriceRanges

pub record AreFound (s : DesignSpace) (shown : List FrontRow) (found : PricesFound) : Type 0 where
  pub prices : found.prices ≡ prices_of s
  pub relevant : found.relevant ≡ length (relevant_prices_of s)
  pub ranges : found.ranges ≡ map (ranges_of s shown) (shown_prices s)
