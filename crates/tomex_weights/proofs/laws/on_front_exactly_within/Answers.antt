use Rattle.tomex_weights.proofs.Within.{on_within}
use Rattle.tomex_weights.proofs.laws.on_front_exactly_within.Goals as goal

pub returns : goal.returns
returns c = on_within
