-- By induction over the steps.
use Rattle.tomex_loop_views.proofs.Saving.{no_machine_saves_more}
use Rattle.tomex_loop_views.proofs.laws.no_machine_saves_more_of_a_loop.Goals as goal

pub returns : goal.returns
returns c = no_machine_saves_more
