-- Closed at once: searching by rules first takes long.
use Rattle.std.proofs.Common.{arith}
use Rattle.std.proofs.lemmas.Grind.{common_steps}
use Rattle.tomex_frames.proofs.values.value_in.Goals as goal

pub loop-step-preserved : goal.loop-step-preserved
loop-step-preserved = grind (arith, common_steps)

pub returns-then-writes : goal.returns-then-writes
returns-then-writes = grind (arith, common_steps)
