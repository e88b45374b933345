-- Closed at once: searching by rules first takes long.
use Rattle.std.proofs.Common.{arith}
use Rattle.std.proofs.lemmas.Grind.{common_steps}
use Rattle.tomex_find.proofs.found_table.columns_of.Goals as goal

pub column_of-requires-2 : goal.column_of-requires-2
column_of-requires-2 = grind (arith, common_steps)

pub push_settings-requires : goal.push_settings-requires
push_settings-requires = grind (arith, common_steps)
