-- By induction over the steps.
use Rattle.tomex_loop_views.proofs.Saving.{floors_are_within_the_runs}
use Rattle.tomex_loop_views.proofs.laws.floors_are_within_the_runs.Goals as goal

pub returns : goal.returns
returns c = floors_are_within_the_runs
