-- The pattern of the second half.
use Rattle.std.proofs.Common.{◌≡◌}
use Rattle.tomex_loops.proofs.pattern.pattern_of.Goals as goal

pub returns : goal.returns
returns g c = rw c.second_half.ensures at c.pattern_in.ensures
