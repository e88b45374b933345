-- Closed at once: searching by rules first takes long.
use Rattle.std.proofs.Common.{arith}
use Rattle.std.proofs.lemmas.Grind.{common_steps}
use Rattle.tomex_prices.proofs.study_prices.relevant_prices.Goals as goal

pub loop-price-preserved : goal.loop-price-preserved
loop-price-preserved = grind (arith, common_steps)
