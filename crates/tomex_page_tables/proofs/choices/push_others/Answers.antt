-- Closed at once: searching by rules first takes long.
use Rattle.std.proofs.Common.{arith}
use Rattle.std.proofs.lemmas.Grind.{common_steps}
use Rattle.tomex_page_tables.proofs.choices.push_others.Goals as goal

pub loop-config-preserved : goal.loop-config-preserved
loop-config-preserved = grind (arith, common_steps)
