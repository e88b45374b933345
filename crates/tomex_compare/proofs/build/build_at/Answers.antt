-- Closed at once: searching by rules first takes long.
use Rattle.std.proofs.Common.{arith}
use Rattle.std.proofs.lemmas.Grind.{common_steps}
use Rattle.tomex_compare.proofs.build.build_at.Goals as goal

pub bounds-programs-place : goal.bounds-programs-place
bounds-programs-place = grind (arith, common_steps)

pub offset_bounds-programs-place : goal.offset_bounds-programs-place
offset_bounds-programs-place = grind (arith, common_steps)
