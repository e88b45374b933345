-- Closed at once: searching by rules first takes long.
use Rattle.std.proofs.Common.{arith}
use Rattle.std.proofs.lemmas.Grind.{common_steps}
use Rattle.tomex_cut.proofs.cutting.cut.Goals as goal

pub file_of-requires : goal.file_of-requires
file_of-requires = grind (arith, common_steps)

pub returns-clause-ok : goal.returns-clause-ok
returns-clause-ok = grind arith
