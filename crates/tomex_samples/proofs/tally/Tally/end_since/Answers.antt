-- Closed at once: searching by rules first takes long.
use Rattle.std.proofs.Common.{arith}
use Rattle.std.proofs.lemmas.Grind.{common_steps}
use Rattle.tomex_samples.proofs.tally.Tally.end_since.Goals as goal

pub end_since-requires-clause-begun : goal.end_since-requires-clause-begun
end_since-requires-clause-begun = grind (arith, common_steps)
