-- Closed at once: searching by rules first takes long.
use Rattle.std.proofs.Common.{arith}
use Rattle.std.proofs.lemmas.Grind.{common_steps}
use Rattle.tomex_stretches.proofs.accesses.Accesses.note.Goals as goal

pub returns-in_ok-note_bytes-clause-touched : goal.returns-in_ok-note_bytes-clause-touched
returns-in_ok-note_bytes-clause-touched = grind (arith, common_steps)
