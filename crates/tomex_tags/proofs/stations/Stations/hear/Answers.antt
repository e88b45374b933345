-- Closed at once: searching by rules first takes long.
use Rattle.std.proofs.Common.{arith}
use Rattle.std.proofs.lemmas.Grind.{common_steps}
use Rattle.tomex_tags.proofs.stations.Stations.hear.Goals as goal

pub returns-clause-heard : goal.returns-clause-heard
returns-clause-heard = grind (arith, common_steps)

pub returns-in-Some-clause-heard : goal.returns-in-Some-clause-heard
returns-in-Some-clause-heard = grind (arith, common_steps)

pub invariant_of-self-2 : goal.invariant_of-self-2
invariant_of-self-2 = grind (arith, common_steps)

pub invariant_of-self : goal.invariant_of-self
invariant_of-self = grind (arith, common_steps)
