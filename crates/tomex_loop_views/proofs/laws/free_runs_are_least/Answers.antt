-- Such a run takes its floor, and no such machine takes less.
use Rattle.tomex_loop_views.proofs.Saving.{free_runs_are_least}
use Rattle.tomex_loop_views.proofs.laws.free_runs_are_least.Goals as goal

pub returns : goal.returns
returns c = free_runs_are_least
