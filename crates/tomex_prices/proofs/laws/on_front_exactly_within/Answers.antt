use Rattle.tomex_prices.proofs.Within.{on_front_within}
use Rattle.tomex_prices.proofs.laws.on_front_exactly_within.Goals as goal

pub returns : goal.returns
returns c = on_front_within
