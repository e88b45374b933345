-- Closed at once: searching by rules first takes long.
use Rattle.std.proofs.Common.{arith}
use Rattle.std.proofs.lemmas.Grind.{common_steps}
use Rattle.tomex_compare.proofs.groups.front_group.Goals as goal

pub marked-requires : goal.marked-requires
marked-requires = grind (arith, common_steps)
