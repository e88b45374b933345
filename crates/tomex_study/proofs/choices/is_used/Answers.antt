-- Closed at once: searching by rules first takes long.
use Rattle.std.proofs.Common.{arith}
use Rattle.std.proofs.lemmas.Grind.{common_steps}
use Rattle.tomex_study.proofs.choices.is_used.Goals as goal

pub returns : goal.returns
returns = grind (arith, common_steps)

pub loop-row-preserved : goal.loop-row-preserved
loop-row-preserved = grind (arith, common_steps)

pub returns-then-same_entry : goal.returns-then-same_entry
returns-then-same_entry = grind (arith, common_steps)
