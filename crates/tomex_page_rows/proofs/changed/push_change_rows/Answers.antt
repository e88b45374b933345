-- Closed at once: searching by rules first takes long.
use Rattle.std.proofs.Common.{arith}
use Rattle.std.proofs.lemmas.Grind.{common_steps}
use Rattle.tomex_page_rows.proofs.changed.push_change_rows.Goals as goal

pub loop-change-preserved : goal.loop-change-preserved
loop-change-preserved = grind (arith, common_steps)
