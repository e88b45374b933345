use Rattle.tomex_prices.proofs.Repricing.{on_repriced_within}
use Rattle.tomex_prices.proofs.laws.on_repriced_front_exactly_within.Goals as goal

pub returns : goal.returns
returns c = on_repriced_within
