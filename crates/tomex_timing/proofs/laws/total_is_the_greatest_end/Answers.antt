-- The greatest number of a list, in either order.
use Rattle.tomex_timing.proofs.Histories.{total_is}
use Rattle.tomex_timing.proofs.laws.total_is_the_greatest_end.Goals as goal

pub returns : goal.returns
returns c = total_is
