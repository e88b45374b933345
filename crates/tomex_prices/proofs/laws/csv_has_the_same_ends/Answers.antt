use Rattle.tomex_prices.proofs.CsvRecords.{same_ends}
use Rattle.tomex_prices.proofs.laws.csv_has_the_same_ends.Goals as goal

pub returns : goal.returns
returns c = same_ends
