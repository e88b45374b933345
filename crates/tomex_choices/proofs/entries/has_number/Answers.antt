-- Closed at once: searching by rules first takes long.
use Rattle.std.proofs.Common.{arith}
use Rattle.std.proofs.lemmas.Grind.{common_steps}
use Rattle.tomex_choices.proofs.entries.has_number.Goals as goal

pub returns-then-count-number : goal.returns-then-count-number
returns-then-count-number = grind (arith, common_steps)

pub loop-config-preserved : goal.loop-config-preserved
loop-config-preserved = grind (arith, common_steps)
