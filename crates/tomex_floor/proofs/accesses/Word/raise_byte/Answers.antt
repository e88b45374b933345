-- Closed at once: searching by rules first takes long.
use Rattle.std.proofs.Common.{arith}
use Rattle.std.proofs.lemmas.Grind.{common_steps}
use Rattle.tomex_floor.proofs.accesses.Word.raise_byte.Goals as goal

pub returns-then-byte-bytes : goal.returns-then-byte-bytes
returns-then-byte-bytes = grind (arith, common_steps)
