-- Closed at once: searching by rules first takes long.
use Rattle.std.proofs.Common.{arith}
use Rattle.std.proofs.lemmas.Grind.{common_steps}
use Rattle.tomex_texts.proofs.end_texts.join_texts.Goals as goal

pub returns : goal.returns
returns = grind (arith, common_steps)

pub loop-next-preserved : goal.loop-next-preserved
loop-next-preserved = grind (arith, common_steps)

pub returns-in_default : goal.returns-in_default
returns-in_default = grind (arith, common_steps)
