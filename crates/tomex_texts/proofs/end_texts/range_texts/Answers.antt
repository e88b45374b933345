-- Closed at once: searching by rules first takes long.
use Rattle.std.proofs.Common.{arith}
use Rattle.std.proofs.lemmas.Grind.{common_steps}
use Rattle.tomex_texts.proofs.end_texts.range_texts.Goals as goal

pub loop-range-preserved : goal.loop-range-preserved
loop-range-preserved = grind (arith, common_steps)

pub split_at-requires : goal.split_at-requires
split_at-requires = grind (arith, common_steps)

pub returns : goal.returns
returns = grind (arith, common_steps)
