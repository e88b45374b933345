-- Closed at once: searching by rules first takes long.
use Rattle.std.proofs.Common.{arith}
use Rattle.std.proofs.lemmas.Grind.{common_steps}
use Rattle.tomex_values.proofs.lists.tables_from.Goals as goal

pub returns-then-not-are_tables : goal.returns-then-not-are_tables
returns-then-not-are_tables = grind (arith, common_steps)

pub returns-else-items_count-eq0 : goal.returns-else-items_count-eq0
returns-else-items_count-eq0 = grind (arith, common_steps)

pub returns-then-items_count-eq0 : goal.returns-then-items_count-eq0
returns-then-items_count-eq0 = grind (arith, common_steps)
