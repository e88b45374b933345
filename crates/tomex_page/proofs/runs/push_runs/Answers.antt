-- Closed at once: searching by rules first takes long.
use Rattle.std.proofs.Common.{arith}
use Rattle.std.proofs.lemmas.Grind.{common_steps}
use Rattle.tomex_page.proofs.runs.push_runs.Goals as goal

pub returns-in_err-push_run-clause-runs : goal.returns-in_err-push_run-clause-runs
returns-in_err-push_run-clause-runs = grind (arith, common_steps)

pub loop-place-preserved : goal.loop-place-preserved
loop-place-preserved = grind (arith, common_steps)

pub returns-clause-text : goal.returns-clause-text
returns-clause-text = grind (arith, common_steps)
