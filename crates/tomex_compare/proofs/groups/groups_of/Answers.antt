-- Closed at once: searching by rules first takes long.
use Rattle.std.proofs.Common.{arith}
use Rattle.std.proofs.lemmas.Grind.{common_steps}
use Rattle.tomex_compare.proofs.groups.groups_of.Goals as goal

pub push_lists-requires : goal.push_lists-requires
push_lists-requires = grind (arith, common_steps)

pub push_fronts-requires-clause-pairs : goal.push_fronts-requires-clause-pairs
push_fronts-requires-clause-pairs = grind (arith, common_steps)
