-- Closed at once: searching by rules first takes long.
use Rattle.std.proofs.Common.{arith}
use Rattle.std.proofs.lemmas.Grind.{common_steps}
use Rattle.tomex_symbols.proofs.sections.find_tables.Goals as goal

pub returns-in_err-names-clause-sections : goal.returns-in_err-names-clause-sections
returns-in_err-names-clause-sections = grind (arith, common_steps)
