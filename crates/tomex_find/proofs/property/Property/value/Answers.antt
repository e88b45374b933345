-- Closed at once: searching by rules first takes long.
use Rattle.std.proofs.Common.{arith}
use Rattle.std.proofs.lemmas.Grind.{common_steps}
use Rattle.tomex_find.proofs.property.Property.value.Goals as goal

pub bounds-costs-row : goal.bounds-costs-row
bounds-costs-row = grind (arith, common_steps)
