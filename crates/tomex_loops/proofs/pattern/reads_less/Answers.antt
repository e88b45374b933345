-- Closed at once: searching by rules first takes long.
use Rattle.std.proofs.Common.{arith}
use Rattle.std.proofs.lemmas.Grind.{common_steps}
use Rattle.tomex_loops.proofs.pattern.reads_less.Goals as goal

pub returns-then-x-y : goal.returns-then-x-y
returns-then-x-y = grind (arith, common_steps)

pub loop-k-preserved : goal.loop-k-preserved
loop-k-preserved = grind (arith, common_steps)
