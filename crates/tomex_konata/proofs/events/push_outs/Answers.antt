-- Closed at once: searching by rules first takes long.
use Rattle.std.proofs.Common.{arith}
use Rattle.std.proofs.lemmas.Grind.{common_steps}
use Rattle.tomex_konata.proofs.events.push_outs.Goals as goal

pub loop-entry-preserved : goal.loop-entry-preserved
loop-entry-preserved = grind (arith, common_steps)
