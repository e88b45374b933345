-- Closed at once: searching by rules first takes long.
use Rattle.std.proofs.Common.{arith}
use Rattle.std.proofs.lemmas.Grind.{common_steps}
use Rattle.tomex_compare.proofs.group_table.heading_column.Goals as goal

pub loop-group-preserved : goal.loop-group-preserved
loop-group-preserved = grind (arith, common_steps)
