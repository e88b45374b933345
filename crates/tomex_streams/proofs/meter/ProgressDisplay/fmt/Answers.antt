-- Closed at once: searching by rules first takes long.
use Rattle.std.proofs.Common.{arith}
use Rattle.std.proofs.lemmas.Grind.{common_steps}
use Rattle.tomex_streams.proofs.meter.ProgressDisplay.fmt.Goals as goal

pub returns-in-AtMostSteps-clause-writes : goal.returns-in-AtMostSteps-clause-writes
returns-in-AtMostSteps-clause-writes = grind (arith, common_steps)

pub returns-in-Steps-clause-writes : goal.returns-in-Steps-clause-writes
returns-in-Steps-clause-writes = grind (arith, common_steps)
