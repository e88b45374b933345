use Rattle.tomex_weights.proofs.Whole.{holds_stated}
use Rattle.tomex_weights.proofs.laws.stated_weights_are_within.Goals as goal

pub returns : goal.returns
returns c = holds_stated
