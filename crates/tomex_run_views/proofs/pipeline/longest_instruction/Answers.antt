-- Closed at once: searching by rules first takes long.
use Rattle.std.proofs.Common.{arith}
use Rattle.std.proofs.lemmas.Grind.{common_steps}
use Rattle.tomex_run_views.proofs.pipeline.longest_instruction.Goals as goal

pub loop-step-preserved : goal.loop-step-preserved
loop-step-preserved = grind (arith, common_steps)

pub returns : goal.returns
returns = grind (arith, common_steps)
