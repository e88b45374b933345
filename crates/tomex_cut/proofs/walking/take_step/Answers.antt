-- Closed at once: searching by rules first takes long.
use Rattle.std.proofs.Common.{arith}
use Rattle.tomex_cut.proofs.walking.take_step.Goals as goal

pub is_changed-requires-clause-memory : goal.is_changed-requires-clause-memory
is_changed-requires-clause-memory = grind arith
