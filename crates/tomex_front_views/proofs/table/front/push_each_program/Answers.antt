-- Closed at once: searching by rules first takes long.
use Rattle.std.proofs.Common.{arith}
use Rattle.std.proofs.lemmas.Grind.{common_steps}
use Rattle.tomex_front_views.proofs.table.front.push_each_program.Goals as goal

pub loop-place-preserved : goal.loop-place-preserved
loop-place-preserved = grind (arith, common_steps)

pub program_column-requires-clause-rows : goal.program_column-requires-clause-rows
program_column-requires-clause-rows = grind (arith, common_steps)

pub returns : goal.returns
returns = grind (arith, common_steps)
