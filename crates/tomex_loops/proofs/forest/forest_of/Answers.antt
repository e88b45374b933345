-- Closed at once: searching by rules first takes long.
use Rattle.std.proofs.Common.{arith}
use Rattle.tomex_loops.proofs.forest.forest_of.Goals as goal

pub returns-clause-forest : goal.returns-clause-forest
returns-clause-forest = grind arith
