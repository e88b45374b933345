use Rattle.tomex_choices.proofs.Unneeded.{nothing_needed}
use Rattle.tomex_choices.proofs.laws.more_of_the_unneeded_changes_nothing.Goals as goal

pub returns : goal.returns
returns c = nothing_needed
