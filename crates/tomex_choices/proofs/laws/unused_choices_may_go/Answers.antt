use Rattle.tomex_choices.proofs.Renumbered.{may_go}
use Rattle.tomex_choices.proofs.laws.unused_choices_may_go.Goals as goal

pub returns : goal.returns
returns c = may_go
