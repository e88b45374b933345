-- The fields of the CSV of prices are the cells of its table.
use Rattle.std.proofs.Common.{◌≡◌, ◌∙◌, ap, ap₂, append_assoc, arith, refl, sym, ℕ, suc, ◌<◌, ◌+◌, ◌==◌}
use Rattle.std.proofs.Common.{List, [], ◌∷◌, ◌++◌, Bool, true, false, ◌&&◌, codes, decimal, get_or, if◌then◌else◌}
use Rattle.std.proofs.Common.{length, map}
use Rattle.std.proofs.Common.{nat_lt, reverse, add-zero, one-add}
use Rattle.std.specs.List.{flat_map, range_with_len}
use Rattle.std.proofs.lemmas.List.{get_or-map}
use Rattle.tomex_pareto.specs.declared.front_row.FrontRow.{FrontRow}
use Rattle.tomex_study.specs.Study.{DesignSpace}
use Rattle.tomex_study.specs.StudyFront.{front_of_study}
use Rattle.tomex_layout.specs.Csv.{record_text}
use Rattle.tomex_layout.specs.CsvFields.{percent_field}
use Rattle.tomex_layout.specs.RowColumns.{heading_column, percent_text}
use Rattle.tomex_layout.specs.Table.{TableColumn}
use Rattle.tomex_prices.specs.declared.intervals.PriceRange.{PriceRange}
use Rattle.tomex_prices.specs.declared.price.Price.{Price}
use Rattle.tomex_prices.specs.declared.price.TheConstants.{GREATEST_PRICE}
use Rattle.tomex_prices.specs.Interval.{range_text}
use Rattle.tomex_prices.specs.Percent.{percent_of}
use Rattle.tomex_prices.specs.Price.{name_of_price, amount}
use Rattle.tomex_prices.specs.Prices.{relevant_prices_of}
use Rattle.tomex_prices.specs.PricesCsv.{high_field, low_field, names, price_record, prices_csv_of}
use Rattle.tomex_prices.specs.PricesCsv.{row_records}
use Rattle.tomex_prices.specs.PricesTable.{columns_of, percent_column, price_column}
use Rattle.tomex_prices.specs.Studies.{interval_of}
use Rattle.tomex_views.specs.PricesLaws.{CsvIsTheTables, cell, csv_of_table, first_number, last_number}
use Rattle.tomex_views.proofs.Numbers.{first_is, last_is, pointed}

-- a percentage

percent_number : (percent : ℕ) (below : Bool)
    → first_number (if below then decimal percent ++ codes "%" else codes "any")
    ≡ (if below then decimal percent else [])
percent_number percent true = first_is percent (codes "%") refl
percent_number percent false = refl

-- the ends of an interval

abbrev text : ℕ → ℕ → Bool → Bool → List ℕ
text low high free above =
    if free && above then codes "any"
    else if free then codes ".." ++ decimal high
    else if above then decimal low ++ codes ".."
    else decimal low ++ codes ".." ++ decimal high

first_end : (low high : ℕ) (free above : Bool)
    → first_number (text low high free above) ≡ (if free then [] else decimal low)
first_end low high true true = refl
first_end low high true false = refl
first_end low high false true = first_is low (codes "..") refl
first_end low high false false =
    ap first_number (append_assoc (decimal low) (codes "..") (decimal high))
    ∙ first_is low (codes ".." ++ decimal high) refl

last_end : (low high : ℕ) (free above : Bool)
    → last_number (text low high free above) ≡ (if above then [] else decimal high)
last_end low high true true = refl
last_end low high true false = last_is high (codes "..") refl
last_end low high false true = ap reverse (pointed low (codes "..") refl)
last_end low high false false = last_is high (decimal low ++ codes "..") (pointed low (codes "..") refl)

low_is : (range : PriceRange) → low_field range ≡ first_number (range_text range)
low_is range = sym (first_end range.least range.most (range.least == 0) (range.most == GREATEST_PRICE))

high_is : (range : PriceRange) → high_field range ≡ last_number (range_text range)
high_is range = sym (last_end range.least range.most (range.least == 0) (range.most == GREATEST_PRICE))

-- items of a list, by their places

by_places : {X : Type 0} (f : X → List ℕ) (g : ℕ → List ℕ) (xs : List X) (from : ℕ)
    → ((k : ℕ) (d : X) → k < length xs → f (get_or xs k d) ≡ g (from + k))
    → flat_map f xs ≡ flat_map g (range_with_len from (length xs))
by_places f g [] from each = refl
by_places f g (x ∷ xs) from each =
    ap₂ (λ (a b : List ℕ). a ++ b) (each 0 x (omega arith) ∙ ap g (add-zero from))
    (by_places f g xs (from + 1) (λ k d low.
    let e : from + suc k ≡ (from + 1) + k = omega arith in
    each (suc k) d (omega (arith, low)) ∙ ap g e))

same_pieces : {X Y : Type 0} (f : X → List ℕ) (g : Y → List ℕ) (h : X → Y) (xs : List X)
    → ((x : X) → f x ≡ g (h x)) → flat_map f xs ≡ flat_map g (map h xs)
same_pieces f g h [] each = refl
same_pieces f g h (x ∷ xs) each = ap₂ (λ (a b : List ℕ). a ++ b) (each x) (same_pieces f g h xs each)

-- the records of a row

module _ (s : DesignSpace) where
  abbrev front : List FrontRow
  front = front_of_study s

  abbrev column : List ℕ → List ℕ → (FrontRow → List ℕ) → TableColumn
  column name now of = record { name = name; entries = now ∷ map of front }

  abbrev rows : TableColumn
  rows = column (codes "row") (codes "now") (λ r. decimal r.row)

  abbrev costs : TableColumn
  costs = column (codes "cost") (codes "-") (λ r. decimal r.cost)

  abbrev cycles : TableColumn
  cycles = column (codes "cycles") (codes "-") (λ r. decimal r.cycles)

  abbrev percents : TableColumn
  percents = column (codes "all") (codes "-") (λ r. percent_text (percent_of s r))

  abbrev ranges : Price → TableColumn
  ranges price =
      column (name_of_price price) (decimal (amount price s.prices)) (λ r. range_text (interval_of s price r))

  columns_are : columns_of s front ≡ rows ∷ costs ∷ cycles ∷ percents ∷ map ranges (relevant_prices_of s)
  unfolding heading_column percent_column price_column
  columns_are = refl

  abbrev of_cells : ℕ → TableColumn → List ℕ
  of_cells i price =
      record_text (
      cell i rows ∷ cell i costs ∷ cell i cycles ∷ first_number (cell i percents)
      ∷ price.name ∷ cell 0 price ∷ first_number (cell i price) ∷ last_number (cell i price) ∷ []
      )

  module _ (k : ℕ) (d : FrontRow) (low : k < length front) where
    abbrev r : FrontRow
    r = get_or front k d

    at : (of : FrontRow → List ℕ) → of r ≡ get_or (map of front) k []
    at of = sym (get_or-map of front k d [] low)

    percent_at : percent_field (percent_of s r)
        ≡ first_number (get_or (map (λ r. percent_text (percent_of s r)) front) k [])
    percent_at =
        sym (percent_number (percent_of s r) (nat_lt (percent_of s r) 100))
        ∙ ap first_number (at (λ r. percent_text (percent_of s r)))

    record_is : (price : Price) → price_record s r price ≡ of_cells (suc k) (ranges price)
    unfolding price_record
    record_is price =
        let range = interval_of s price r in
        let low' : low_field range ≡ first_number (get_or (map (λ r. range_text (interval_of s price r)) front) k []) =
        low_is range ∙ ap first_number (at (λ r. range_text (interval_of s price r))) in
        let high' : high_field range ≡ last_number (get_or (map (λ r. range_text (interval_of s price r)) front) k []) =
        high_is range ∙ ap last_number (at (λ r. range_text (interval_of s price r))) in
        (λ i. record_text (
        at (λ r. decimal r.row) i ∷ at (λ r. decimal r.cost) i ∷ at (λ r. decimal r.cycles) i ∷ percent_at i
        ∷ name_of_price price ∷ decimal (amount price s.prices) ∷ low' i ∷ high' i ∷ []
        ))

    records_are : row_records s r ≡ flat_map (of_cells (suc k)) (map ranges (relevant_prices_of s))
    unfolding row_records
    records_are = same_pieces (price_record s r) (of_cells (suc k)) ranges (relevant_prices_of s) record_is

  abbrev of_line : ℕ → List ℕ
  of_line i = flat_map (of_cells i) (map ranges (relevant_prices_of s))

  all_records : flat_map (row_records s) front ≡ flat_map of_line (range_with_len 1 (length front))
  all_records =
      by_places (row_records s) of_line front 1
      (λ k d low. records_are k d low ∙ ap of_line (sym (one-add k)))

  is_tables : prices_csv_of s ≡ csv_of_table (length front) (columns_of s front)
  unfolding prices_csv_of
  is_tables =
      ap (λ (text : List ℕ). record_text names ++ text) all_records
      ∙ ap (csv_of_table (length front)) (sym columns_are)

pub csv_is : CsvIsTheTables
csv_is = is_tables
