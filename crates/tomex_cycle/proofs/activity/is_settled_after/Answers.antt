-- Closed at once: searching by rules first takes long.
use Rattle.std.proofs.Common.{arith}
use Rattle.std.proofs.lemmas.Grind.{common_steps}
use Rattle.tomex_cycle.proofs.activity.is_settled_after.Goals as goal

pub returns-then-not-ended-clause-settled : goal.returns-then-not-ended-clause-settled
returns-then-not-ended-clause-settled = grind (arith, common_steps)
