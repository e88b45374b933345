use Rattle.tomex_choices.proofs.Ends.{at_once, at_once_no_points}
use Rattle.tomex_choices.proofs.laws.longer_lists_at_once_add_nothing.Goals as goal

pub returns-clause-covered : goal.returns-clause-covered
returns-clause-covered c = at_once

pub returns-clause-points : goal.returns-clause-points
returns-clause-points c = at_once_no_points
