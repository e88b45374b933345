-- Closed at once: searching by rules first takes long.
use Rattle.std.proofs.Common.{arith}
use Rattle.std.proofs.lemmas.Grind.{common_steps}
use Rattle.tomex_find.proofs.found_table.column_of.Goals as goal

pub loop-row-preserved : goal.loop-row-preserved
loop-row-preserved = grind (arith, common_steps)
