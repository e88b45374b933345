-- Closed at once: searching by rules first takes long.
use Rattle.std.proofs.Common.{arith}
use Rattle.std.proofs.lemmas.Grind.{common_steps}
use Rattle.tomex_views.proofs.answering.text_of.Goals as goal

pub returns-in-Survey-clause-text : goal.returns-in-Survey-clause-text
returns-in-Survey-clause-text = grind (arith, common_steps)

pub returns-in-Survey-clause-refused : goal.returns-in-Survey-clause-refused
returns-in-Survey-clause-refused = grind (arith, common_steps)
