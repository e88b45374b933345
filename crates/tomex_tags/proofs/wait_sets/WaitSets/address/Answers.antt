-- Closed at once: searching by rules first takes long.
use Rattle.std.proofs.Common.{arith}
use Rattle.std.proofs.lemmas.Grind.{common_steps}
use Rattle.tomex_tags.proofs.wait_sets.WaitSets.address.Goals as goal

pub returns-then-has_second-clause-lacking : goal.returns-then-has_second-clause-lacking
returns-then-has_second-clause-lacking = grind (arith, common_steps)

pub returns-else-is_none-clause-lacking : goal.returns-else-is_none-clause-lacking
returns-else-is_none-clause-lacking = grind (arith, common_steps)
