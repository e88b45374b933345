-- Closed at once: searching by rules first takes long.
use Rattle.std.proofs.Common.{arith}
use Rattle.tomex_views.proofs.texts.place_of.Goals as goal

pub returns-clause-inside : goal.returns-clause-inside
returns-clause-inside = grind arith
