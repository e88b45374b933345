-- Closed at once: searching by rules first takes long.
use Rattle.std.proofs.Common.{arith}
use Rattle.std.proofs.lemmas.Grind.{common_steps}
use Rattle.tomex_repeats.proofs.cut.end_of_block.Goals as goal

pub returns-then-facts-place-clause-ends : goal.returns-then-facts-place-clause-ends
returns-then-facts-place-clause-ends = grind (arith, common_steps)
