use Rattle.tomex_weights.proofs.Whole.{holds_whole}
use Rattle.tomex_weights.proofs.laws.whole_weights_are_within.Goals as goal

pub returns : goal.returns
returns c = holds_whole
