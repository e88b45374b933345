use Rattle.tomex_choices.proofs.Covered.{no_points_added}
use Rattle.tomex_choices.proofs.laws.covered_machines_add_no_points.Goals as goal

pub returns : goal.returns
returns c = no_points_added
