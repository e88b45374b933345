-- Closed at once: searching by rules first takes long.
use Rattle.std.proofs.Common.{arith}
use Rattle.std.proofs.lemmas.Grind.{common_steps}
use Rattle.tomex_tags.proofs.pools.Pools.places_without_address.Goals as goal

pub returns-clause-set : goal.returns-clause-set
returns-clause-set = grind (arith, common_steps)
