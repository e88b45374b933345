use Rattle.tomex_views.proofs.PricesCells.{csv_is}
use Rattle.tomex_views.proofs.laws.csv_of_prices_is_the_tables.Goals as goal

pub returns : goal.returns
returns c = csv_is
