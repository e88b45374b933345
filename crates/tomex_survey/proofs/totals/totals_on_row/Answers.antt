-- Closed at once: searching by rules first takes long.
use Rattle.std.proofs.Common.{arith}
use Rattle.std.proofs.lemmas.Grind.{common_steps}
use Rattle.tomex_survey.proofs.totals.totals_on_row.Goals as goal

pub learn-requires : goal.learn-requires
learn-requires = grind (arith, common_steps)
