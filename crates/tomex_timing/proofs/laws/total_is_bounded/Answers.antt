-- Each step ends at most 67 cycles after all that is older.
use Rattle.tomex_timing.proofs.Bound.{total_bound}
use Rattle.tomex_timing.proofs.laws.total_is_bounded.Goals as goal

pub returns : goal.returns
returns c = total_bound
