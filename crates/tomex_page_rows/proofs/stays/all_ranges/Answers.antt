-- Closed at once: searching by rules first takes long.
use Rattle.std.proofs.Common.{arith}
use Rattle.std.proofs.lemmas.Grind.{common_steps}
use Rattle.tomex_page_rows.proofs.stays.all_ranges.Goals as goal

pub returns : goal.returns
returns = grind (arith, common_steps)

pub loop-price-preserved : goal.loop-price-preserved
loop-price-preserved = grind (arith, common_steps)
