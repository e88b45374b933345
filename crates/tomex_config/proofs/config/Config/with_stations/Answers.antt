-- Closed at once: searching by rules first takes long.
use Rattle.std.proofs.Common.{arith}
use Rattle.std.proofs.lemmas.Grind.{common_steps}
use Rattle.tomex_config.proofs.config.Config.with_stations.Goals as goal

pub invariant_of-result : goal.invariant_of-result
invariant_of-result = grind (arith, common_steps)
