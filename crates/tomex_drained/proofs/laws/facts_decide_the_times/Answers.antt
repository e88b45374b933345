-- By the same law: steps with the same facts are the same to the recurrence.
use Rattle.tomex_drained.proofs.Facts.{facts_decide}
use Rattle.tomex_drained.proofs.laws.facts_decide_the_times.Goals as goal

pub returns : goal.returns
returns c = facts_decide
