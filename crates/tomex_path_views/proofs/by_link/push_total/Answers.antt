-- Closed at once: searching by rules first takes long.
use Rattle.std.proofs.Common.{arith}
use Rattle.std.proofs.lemmas.Grind.{common_steps}
use Rattle.tomex_path_views.proofs.by_link.push_total.Goals as goal

pub returns-clause-fields : goal.returns-clause-fields
returns-clause-fields = grind (arith, common_steps)
