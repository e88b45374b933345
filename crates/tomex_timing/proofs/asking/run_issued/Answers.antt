-- Closed at once: searching by rules first takes long.
use Rattle.std.proofs.Common.{arith}
use Rattle.std.proofs.lemmas.Grind.{common_steps}
use Rattle.tomex_timing.proofs.asking.run_issued.Goals as goal

pub take_slots-requires-clause-results : goal.take_slots-requires-clause-results
take_slots-requires-clause-results = grind (arith, common_steps)
