-- Closed at once: searching by rules first takes long.
use Rattle.std.proofs.Common.{arith}
use Rattle.std.proofs.lemmas.Grind.{common_steps}
use Rattle.tomex_texts.proofs.front_fields.push_end.Goals as goal

pub watch_text-requires : goal.watch_text-requires
watch_text-requires = grind (arith, common_steps)

pub returns-clause-whole : goal.returns-clause-whole
returns-clause-whole = grind (arith, common_steps)

pub returns-clause-fields : goal.returns-clause-fields
returns-clause-fields = grind (arith, common_steps)
