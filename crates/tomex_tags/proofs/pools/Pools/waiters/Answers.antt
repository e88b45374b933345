-- Closed at once: searching by rules first takes long.
use Rattle.std.proofs.Common.{arith}
use Rattle.std.proofs.lemmas.Grind.{common_steps}
use Rattle.tomex_tags.proofs.pools.Pools.waiters.Goals as goal

pub returns-clause-own : goal.returns-clause-own
returns-clause-own = grind (arith, common_steps)
