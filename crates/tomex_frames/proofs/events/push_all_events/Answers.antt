-- Closed at once: searching by rules first takes long.
use Rattle.std.proofs.Common.{arith}
use Rattle.std.proofs.lemmas.Grind.{common_steps}
use Rattle.tomex_frames.proofs.events.push_all_events.Goals as goal

pub loop-event-preserved : goal.loop-event-preserved
loop-event-preserved = grind (arith, common_steps)

pub returns : goal.returns
returns = grind (arith, common_steps)
