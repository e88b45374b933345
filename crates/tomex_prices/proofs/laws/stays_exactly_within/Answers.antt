use Rattle.tomex_prices.proofs.Within.{exactly_within}
use Rattle.tomex_prices.proofs.laws.stays_exactly_within.Goals as goal

pub returns : goal.returns
returns c = exactly_within
