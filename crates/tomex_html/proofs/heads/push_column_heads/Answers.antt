-- Closed at once: searching by rules first takes long.
use Rattle.std.proofs.Common.{arith}
use Rattle.std.proofs.lemmas.Grind.{common_steps}
use Rattle.tomex_html.proofs.heads.push_column_heads.Goals as goal

pub loop-name-preserved : goal.loop-name-preserved
loop-name-preserved = grind (arith, common_steps)
