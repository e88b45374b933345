-- Closed at once: searching by rules first takes long.
use Rattle.std.proofs.Common.{arith}
use Rattle.std.proofs.lemmas.Grind.{common_steps}
use Rattle.tomex_layout.proofs.fields.push_instruction.Goals as goal

pub returns-clause-fields : goal.returns-clause-fields
returns-clause-fields = grind (arith, common_steps)
