-- The table of a study's prices: the values of each for which a row of the front stays, and the percentage by which
-- all may be wrong.
use Rattle.std.specs.Prelude.{ℕ, ◌*◌, nat_lt, suc, Bool, List, ◌∷◌, ◌++◌, codes, length, map}
use Rattle.std.specs.Fmt.{decimal}
use Rattle.tomex_pareto.specs.declared.front_row.FrontRow.{FrontRow}
use Rattle.tomex_study.specs.Study.{DesignSpace}
use Rattle.tomex_study.specs.StudyFront.{front_of_study}
use Rattle.tomex_layout.specs.RowColumns.{column_of, percent_text, row_columns}
use Rattle.tomex_layout.specs.Table.{TableColumn, table_of}
use Rattle.tomex_prices.specs.declared.price.Price.{Price}
use Rattle.tomex_prices.specs.Interval.{range_text}
use Rattle.tomex_prices.specs.Percent.{percent_of}
use Rattle.tomex_prices.specs.Price.{name_of_price, amount}
use Rattle.tomex_prices.specs.Prices.{relevant_prices_of}
use Rattle.tomex_prices.specs.Studies.{interval_of}

-- there are more than 262,144 intervals, one for each relevant price of each row of the front
unfoldable pub is_too_large : DesignSpace → Bool
is_too_large s = nat_lt 262144 (length (front_of_study s) * length (relevant_prices_of s))

unfoldable pub percent_column : DesignSpace → List FrontRow → TableColumn
percent_column s front = column_of (codes "all") (codes "-") (λ r. percent_text (percent_of s r)) front

unfoldable pub price_column : DesignSpace → List FrontRow → Price → TableColumn
price_column s front price =
    column_of (name_of_price price) (decimal (amount price s.prices)) (λ r. range_text (interval_of s price r)) front

abbrev pub columns_of : DesignSpace → List FrontRow → List TableColumn
columns_of s front =
    row_columns front ++ percent_column s front ∷ map (price_column s front) (relevant_prices_of s)

-- the table of a study's prices
unfoldable pub prices_table_of : DesignSpace → List ℕ
prices_table_of s = let front = front_of_study s in table_of (suc (length front)) (columns_of s front)
