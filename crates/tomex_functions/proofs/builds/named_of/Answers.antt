-- Closed at once: searching by rules first takes long.
use Rattle.std.proofs.Common.{arith}
use Rattle.std.proofs.lemmas.Grind.{common_steps}
use Rattle.tomex_functions.proofs.builds.named_of.Goals as goal

pub add_rows-requires : goal.add_rows-requires
add_rows-requires = grind (arith, common_steps)
