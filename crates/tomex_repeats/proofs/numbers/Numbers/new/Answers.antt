-- Closed at once: searching by rules first takes long.
use Rattle.std.proofs.Common.{arith}
use Rattle.std.proofs.lemmas.Grind.{common_steps}
use Rattle.tomex_repeats.proofs.numbers.Numbers.new.Goals as goal

pub returns-clause-state : goal.returns-clause-state
returns-clause-state = grind (arith, common_steps)
