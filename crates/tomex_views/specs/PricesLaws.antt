-- The CSV of a study's prices, read off the cells of its table.
use Rattle.std.specs.Prelude.{◌≡◌, ℕ, List, [], ◌∷◌, ◌++◌, length, reverse, slice_index_or}
use Rattle.std.specs.List.{flat_map, range_with_len, take_while}
use Rattle.tomex_config.specs.Configuration.{is_between}
use Rattle.tomex_study.specs.Study.{DesignSpace}
use Rattle.tomex_study.specs.StudyFront.{front_of_study}
use Rattle.tomex_layout.specs.Csv.{record_text}
use Rattle.tomex_layout.specs.Table.{TableColumn}
use Rattle.tomex_prices.specs.PricesCsv.{names, prices_csv_of}
use Rattle.tomex_prices.specs.PricesTable.{columns_of}

-- the cell of a column in the line i
abbrev pub cell : ℕ → TableColumn → List ℕ
cell i c = slice_index_or c.entries i []

-- the number that a cell begins with, and the one that it ends with: `5` of `5%`, `3` and `8` of `3..8`, none of `any`
abbrev pub first_number : List ℕ → List ℕ
first_number text = take_while (is_between 48 57) text

abbrev pub last_number : List ℕ → List ℕ
last_number text = reverse (first_number (reverse text))

-- of a price's column: its name, its cell in the line `now`, and the first and the last number in its cell
abbrev pub price_cells : ℕ → TableColumn → List (List ℕ)
price_cells i price = price.name ∷ cell 0 price ∷ first_number (cell i price) ∷ last_number (cell i price) ∷ []

-- a record for each line after `now` and each price: the cells under `row`, `cost` and `cycles`, the number under
-- `all`, and those
abbrev pub csv_of_table : ℕ → List TableColumn → List ℕ
csv_of_table rows (row ∷ cost ∷ cycles ∷ all ∷ prices) =
    record_text names ++ flat_map (λ i. flat_map (λ price. record_text
    (cell i row ∷ cell i cost ∷ cell i cycles ∷ first_number (cell i all) ∷ price_cells i price))
    prices) (range_with_len 1 rows)
csv_of_table rows columns = []

abbrev pub CsvIsTheTables : Type 0
CsvIsTheTables = (s : DesignSpace)
    → prices_csv_of s ≡ csv_of_table (length (front_of_study s)) (columns_of s (front_of_study s))
