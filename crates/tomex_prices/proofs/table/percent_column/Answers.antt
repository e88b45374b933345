-- Closed at once: searching by rules first takes long.
use Rattle.std.proofs.Common.{arith}
use Rattle.std.proofs.lemmas.Grind.{common_steps}
use Rattle.tomex_prices.proofs.table.percent_column.Goals as goal

pub percent-percent-requires-clause-row : goal.percent-percent-requires-clause-row
percent-percent-requires-clause-row = grind (arith, common_steps)

pub loop-row-preserved : goal.loop-row-preserved
loop-row-preserved = grind (arith, common_steps)
