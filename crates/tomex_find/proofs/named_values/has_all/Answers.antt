-- Closed at once: searching by rules first takes long.
use Rattle.std.proofs.Common.{arith}
use Rattle.std.proofs.lemmas.Grind.{common_steps}
use Rattle.tomex_find.proofs.named_values.has_all.Goals as goal

pub loop-word-preserved : goal.loop-word-preserved
loop-word-preserved = grind (arith, common_steps)
