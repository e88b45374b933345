-- Closed at once: searching by rules first takes long.
use Rattle.std.proofs.Common.{arith}
use Rattle.std.proofs.lemmas.Grind.{common_steps}
use Rattle.tomex_evaluation.proofs.evaluator.Evaluator.demands.Goals as goal

pub demands_by_blocks-requires-clause-blocks : goal.demands_by_blocks-requires-clause-blocks
demands_by_blocks-requires-clause-blocks = grind (arith, common_steps)
