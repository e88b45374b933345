-- Closed at once: searching by rules first takes long.
use Rattle.std.proofs.Common.{arith}
use Rattle.std.proofs.lemmas.Grind.{common_steps}
use Rattle.tomex_find.proofs.finding.first_unhad.Goals as goal

pub loop-word-preserved : goal.loop-word-preserved
loop-word-preserved = grind (arith, common_steps)

pub returns-then-not-branch : goal.returns-then-not-branch
returns-then-not-branch = grind (arith, common_steps)

pub returns : goal.returns
returns = grind (arith, common_steps)
