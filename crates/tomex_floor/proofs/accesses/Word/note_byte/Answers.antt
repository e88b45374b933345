-- Closed at once: searching by rules first takes long.
use Rattle.std.proofs.Common.{arith}
use Rattle.std.proofs.lemmas.Grind.{common_steps}
use Rattle.tomex_floor.proofs.accesses.Word.note_byte.Goals as goal

pub returns-then-byte-bytes-clause-noted : goal.returns-then-byte-bytes-clause-noted
returns-then-byte-bytes-clause-noted = grind (arith, common_steps)
