-- A study's prices as CSV: a record for each row of the front and each price of the table.
use Rattle.std.specs.Prelude.{◌≡◌, ℕ, ◌==◌, ◌&&◌, if◌then◌else◌, List, [], ◌∷◌, ◌++◌, codes, map}
use Rattle.std.specs.Fmt.{decimal}
use Rattle.std.specs.List.{flat_map}
use Rattle.tomex_layout.specs.CsvFields.{percent_field}
use Rattle.tomex_layout.specs.Csv.{record_text}
use Rattle.tomex_pareto.specs.declared.front_row.FrontRow.{FrontRow}
use Rattle.tomex_study.specs.Study.{DesignSpace}
use Rattle.tomex_study.specs.StudyFront.{front_of_study}
use Rattle.tomex_prices.specs.declared.intervals.PriceRange.{PriceRange}
use Rattle.tomex_prices.specs.declared.price.Price.{Price}
use Rattle.tomex_prices.specs.declared.price.TheConstants.{GREATEST_PRICE}
use Rattle.tomex_prices.specs.Interval.{range_text}
use Rattle.tomex_prices.specs.Percent.{percent_of}
use Rattle.tomex_prices.specs.Price.{name_of_price, amount}
use Rattle.tomex_prices.specs.Prices.{relevant_prices_of}
use Rattle.tomex_prices.specs.Studies.{interval_of}

abbrev pub names : List (List ℕ)
names =
    codes "row" ∷ codes "cost" ∷ codes "cycles" ∷ codes "all" ∷ codes "price" ∷ codes "now" ∷ codes "low"
    ∷ codes "high" ∷ []

-- the ends of an interval; one at the limit of prices bounds nothing
abbrev pub low_field : PriceRange → List ℕ
low_field range = if range.least == 0 then [] else decimal range.least

abbrev pub high_field : PriceRange → List ℕ
high_field range = if range.most == GREATEST_PRICE then [] else decimal range.most

-- what the records of a row begin with
abbrev pub row_fields : FrontRow → ℕ → List (List ℕ)
row_fields r percent = decimal r.row ∷ decimal r.cost ∷ decimal r.cycles ∷ percent_field percent ∷ []

-- a price, as stated, and the ends of an interval of it
abbrev pub price_fields : DesignSpace → Price → PriceRange → List (List ℕ)
price_fields s price range =
    name_of_price price ∷ decimal (amount price s.prices) ∷ low_field range ∷ high_field range ∷ []

unfoldable pub price_record : DesignSpace → FrontRow → Price → List ℕ
price_record s r price =
    record_text (row_fields r (percent_of s r) ++ price_fields s price (interval_of s price r))

unfoldable pub row_records : DesignSpace → FrontRow → List ℕ
row_records s r = flat_map (price_record s r) (relevant_prices_of s)

unfoldable pub prices_csv_of : DesignSpace → List ℕ
prices_csv_of s = record_text names ++ flat_map (row_records s) (front_of_study s)

-- the intervals of a price for the rows of the front
pub record PriceRanges : Type 0 where
  pub price : Price
  pub ranges : List PriceRange

abbrev pub ranges_by : DesignSpace → Price → PriceRanges
ranges_by s price = record { price = price; ranges = map (interval_of s price) (front_of_study s) }

-- these are the intervals of one price
abbrev pub IsOfPrice : DesignSpace → PriceRanges → Type 0
IsOfPrice s p = p.ranges ≡ map (interval_of s p.price) (front_of_study s)

-- the table's text of an interval has the same ends, with `..` between them, or `any` if nothing bounds it
abbrev pub HasTheSameEnds : Type 0
HasTheSameEnds = (range : PriceRange) → range_text range
    ≡ (if range.least == 0 && range.most == GREATEST_PRICE then codes "any"
    else low_field range ++ codes ".." ++ high_field range)
