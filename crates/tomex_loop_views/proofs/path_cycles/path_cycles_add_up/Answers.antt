-- By key, and then by reason.
use Rattle.tomex_loop_views.proofs.PathKeys.{path_cycles_add_up}
use Rattle.tomex_loop_views.proofs.path_cycles.path_cycles_add_up.Goals as goal

pub returns : goal.returns
returns c = path_cycles_add_up
