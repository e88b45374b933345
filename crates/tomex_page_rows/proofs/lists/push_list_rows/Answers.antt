-- Closed at once: searching by rules first takes long.
use Rattle.std.proofs.Common.{arith}
use Rattle.std.proofs.lemmas.Grind.{common_steps}
use Rattle.tomex_page_rows.proofs.lists.push_list_rows.Goals as goal

pub loop-part-preserved : goal.loop-part-preserved
loop-part-preserved = grind (arith, common_steps)
