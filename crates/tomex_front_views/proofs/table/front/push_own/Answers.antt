-- Closed at once: searching by rules first takes long.
use Rattle.std.proofs.Common.{arith}
use Rattle.std.proofs.lemmas.Grind.{common_steps}
use Rattle.tomex_front_views.proofs.table.front.push_own.Goals as goal

pub heading_column-requires-3 : goal.heading_column-requires-3
heading_column-requires-3 = grind (arith, common_steps)

pub returns : goal.returns
returns = grind (arith, common_steps)

pub heading_column-requires-2 : goal.heading_column-requires-2
heading_column-requires-2 = grind (arith, common_steps)

pub push_settings-requires : goal.push_settings-requires
push_settings-requires = grind (arith, common_steps)
