-- Closed at once: searching by rules first takes long.
use Rattle.std.proofs.Common.{arith}
use Rattle.std.proofs.lemmas.Grind.{common_steps}
use Rattle.tomex_evaluation.proofs.evaluator.Evaluator.cut.Goals as goal

pub invariant_of-self : goal.invariant_of-self
invariant_of-self = grind (arith, common_steps)

pub invariant_of-self-in_ok-of-2 : goal.invariant_of-self-in_ok-of-2
invariant_of-self-in_ok-of-2 = grind (arith, common_steps)

pub of-requires : goal.of-requires
of-requires = grind (arith, common_steps)
