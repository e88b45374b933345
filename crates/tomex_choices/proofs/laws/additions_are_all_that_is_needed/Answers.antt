use Rattle.tomex_choices.proofs.Fronts.{all_that_is_needed}
use Rattle.tomex_choices.proofs.Needed.{these_save_as_much}
use Rattle.tomex_choices.proofs.laws.additions_are_all_that_is_needed.Goals as goal

pub returns-clause-points : goal.returns-clause-points
returns-clause-points c = all_that_is_needed

pub returns-clause-bought : goal.returns-clause-bought
returns-clause-bought c = these_save_as_much
