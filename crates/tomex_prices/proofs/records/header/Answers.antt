-- The names are those of the columns.
use Rattle.tomex_prices.proofs.records.header.Goals as goal

pub returns : goal.returns
returns g c = rw c.as_slice.ensures at c.with_header.ensures
