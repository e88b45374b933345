-- Closed at once: searching by rules first takes long.
use Rattle.std.proofs.Common.{arith}
use Rattle.std.proofs.lemmas.Grind.{common_steps}
use Rattle.tomex_rvexec.proofs.operation.result_in.Goals as goal

pub returns-in-Load-clause-outside : goal.returns-in-Load-clause-outside
returns-in-Load-clause-outside = grind (arith, common_steps)

pub returns-in_ok-place-in-Store-clause-outside : goal.returns-in_ok-place-in-Store-clause-outside
returns-in_ok-place-in-Store-clause-outside = grind (arith, common_steps)

pub returns-in-Mul-clause-outside : goal.returns-in-Mul-clause-outside
returns-in-Mul-clause-outside = grind (arith, common_steps)
