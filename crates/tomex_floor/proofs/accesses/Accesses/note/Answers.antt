-- Closed at once: searching by rules first takes long.
use Rattle.std.proofs.Common.{arith}
use Rattle.tomex_floor.proofs.accesses.Accesses.note.Goals as goal

pub returns-in_ok-note_bytes : goal.returns-in_ok-note_bytes
returns-in_ok-note_bytes = grind arith
