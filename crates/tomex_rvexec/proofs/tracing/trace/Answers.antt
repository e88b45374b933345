-- Closed at once: searching by rules first takes long.
use Rattle.std.proofs.Common.{arith}
use Rattle.std.proofs.lemmas.Grind.{common_steps}
use Rattle.tomex_rvexec.proofs.tracing.trace.Goals as goal

pub returns-clause-ends : goal.returns-clause-ends
returns-clause-ends = grind (arith, common_steps)
