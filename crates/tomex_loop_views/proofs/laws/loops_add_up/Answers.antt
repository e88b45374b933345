-- By induction over the steps.
use Rattle.tomex_loop_views.proofs.AddingUp.{loops_add_up}
use Rattle.tomex_loop_views.proofs.laws.loops_add_up.Goals as goal

pub returns : goal.returns
returns c = loops_add_up
