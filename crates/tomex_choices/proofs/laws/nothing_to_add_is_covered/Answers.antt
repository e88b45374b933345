use Rattle.tomex_choices.proofs.Covered.{covered_is_none, none_is_covered}
use Rattle.tomex_choices.proofs.Needed.{nothing_saved}
use Rattle.tomex_choices.proofs.laws.nothing_to_add_is_covered.Goals as goal

pub returns-clause-covered : goal.returns-clause-covered
returns-clause-covered c = none_is_covered

pub returns-clause-nothing : goal.returns-clause-nothing
returns-clause-nothing c = covered_is_none

pub returns-clause-saved : goal.returns-clause-saved
returns-clause-saved c = nothing_saved
