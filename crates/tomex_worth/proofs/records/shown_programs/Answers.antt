-- Closed at once: searching by rules first takes long.
use Rattle.std.proofs.Common.{arith}
use Rattle.std.proofs.lemmas.Grind.{common_steps}
use Rattle.tomex_worth.proofs.records.shown_programs.Goals as goal

pub returns-then-programs-gt1 : goal.returns-then-programs-gt1
returns-then-programs-gt1 = grind (arith, common_steps)
