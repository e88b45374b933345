-- Closed at once: searching by rules first takes long.
use Rattle.std.proofs.Common.{arith}
use Rattle.std.proofs.lemmas.Grind.{common_steps}
use Rattle.tomex_timing.proofs.asking.take_bus.Goals as goal

pub returns-in_ok-room-clause-takes : goal.returns-in_ok-room-clause-takes
returns-in_ok-room-clause-takes = grind (arith, common_steps)

pub returns-else-is_some-clause-takes : goal.returns-else-is_some-clause-takes
returns-else-is_some-clause-takes = grind (arith, common_steps)
