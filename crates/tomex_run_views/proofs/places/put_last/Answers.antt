-- Closed at once: searching by rules first takes long.
use Rattle.std.proofs.Common.{arith}
use Rattle.std.proofs.lemmas.Grind.{common_steps}
use Rattle.tomex_run_views.proofs.places.put_last.Goals as goal

pub returns-clause-text : goal.returns-clause-text
returns-clause-text = grind (arith, common_steps)
