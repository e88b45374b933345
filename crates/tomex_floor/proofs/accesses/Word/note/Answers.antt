-- Closed at once: searching by rules first takes long.
use Rattle.std.proofs.Common.{arith}
use Rattle.tomex_floor.proofs.accesses.Word.note.Goals as goal

pub loop-lane-preserved : goal.loop-lane-preserved
loop-lane-preserved = grind arith
