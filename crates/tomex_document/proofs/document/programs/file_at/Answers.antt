-- Closed at once: searching by rules first takes long.
use Rattle.std.proofs.Common.{arith}
use Rattle.std.proofs.lemmas.Grind.{common_steps}
use Rattle.tomex_document.proofs.document.programs.file_at.Goals as goal

pub returns-in_ok-from_str-clause-named : goal.returns-in_ok-from_str-clause-named
returns-in_ok-from_str-clause-named = grind (arith, common_steps)
