-- By induction over the steps.
use Rattle.tomex_loop_views.proofs.Saving.{loops_are_the_programs}
use Rattle.tomex_loop_views.proofs.laws.loops_are_the_programs.Goals as goal

pub returns : goal.returns
returns c = loops_are_the_programs
