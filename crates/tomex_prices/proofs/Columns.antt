-- The lengths of the table's columns.
use Rattle.std.proofs.Common.{ap, suc, List}
use Rattle.std.specs.Prelude.{All}
use Rattle.std.proofs.lemmas.List.{length-map}
use Rattle.tomex_pareto.specs.declared.front_row.FrontRow.{FrontRow}
use Rattle.tomex_layout.proofs.Lengths.{HasEntries, columns_long}
use Rattle.tomex_study.specs.Study.{DesignSpace}
use Rattle.tomex_prices.specs.declared.price.Price.{Price}
use Rattle.tomex_prices.specs.Prices.{relevant_prices_of}
use Rattle.tomex_prices.specs.PricesTable.{columns_of, percent_column, price_column}

percent_long : (s : DesignSpace) (front : List FrontRow) → HasEntries front (percent_column s front)
unfolding percent_column
percent_long s front = ap suc (length-map front _)

price_long : (s : DesignSpace) (front : List FrontRow) (price : Price) → HasEntries front (price_column s front price)
unfolding price_column
price_long s front price = ap suc (length-map front _)

pub all_long : (s : DesignSpace) (front : List FrontRow) → All (HasEntries front) (columns_of s front)
all_long s front =
    columns_long front (percent_column s front) (price_column s front) (relevant_prices_of s) (percent_long s front)
    (price_long s front)
