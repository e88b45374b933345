-- Closed at once: searching by rules first takes long.
use Rattle.std.proofs.Common.{arith}
use Rattle.std.proofs.lemmas.Grind.{common_steps}
use Rattle.tomex_find.proofs.named_values.push_choice.Goals as goal

pub returns : goal.returns
returns = grind (arith, common_steps)
