use Rattle.tomex_choices.proofs.PriceFree.{nothing_changes}
use Rattle.tomex_choices.proofs.laws.more_than_enough_changes_nothing.Goals as goal

pub returns : goal.returns
returns c = nothing_changes
