use Rattle.tomex_choices.proofs.Fronts.{complete_buys_fewest, front_stands}
use Rattle.tomex_choices.proofs.Longer.{complete_is_complete}
use Rattle.tomex_choices.proofs.laws.complete_lists_are_complete.Goals as goal

pub returns-clause-machines : goal.returns-clause-machines
returns-clause-machines c = complete_is_complete

pub returns-clause-bought : goal.returns-clause-bought
returns-clause-bought c = complete_buys_fewest

pub returns-clause-stands : goal.returns-clause-stands
returns-clause-stands c = front_stands
