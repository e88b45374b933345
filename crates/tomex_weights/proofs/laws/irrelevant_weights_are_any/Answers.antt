use Rattle.tomex_weights.proofs.Irrelevant.{holds_all}
use Rattle.tomex_weights.proofs.laws.irrelevant_weights_are_any.Goals as goal

pub returns : goal.returns
returns c = holds_all
