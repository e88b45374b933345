-- Closed at once: searching by rules first takes long.
use Rattle.std.proofs.Common.{arith}
use Rattle.std.proofs.lemmas.Grind.{common_steps}
use Rattle.tomex_page_rows.proofs.additions.push_addition_rows.Goals as goal

pub loop-list-preserved : goal.loop-list-preserved
loop-list-preserved = grind (arith, common_steps)
