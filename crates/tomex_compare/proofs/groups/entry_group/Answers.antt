-- Closed at once: searching by rules first takes long.
use Rattle.std.proofs.Common.{arith}
use Rattle.std.proofs.lemmas.Grind.{common_steps}
use Rattle.tomex_compare.proofs.groups.entry_group.Goals as goal

pub with_entry-requires : goal.with_entry-requires
with_entry-requires = grind (arith, common_steps)
