-- The steps of one function have one name, and no two names are the same.
use Rattle.tomex_functions.proofs.ByName.{names_have_their_steps}
use Rattle.tomex_functions.proofs.Once.{names_stand_once}
use Rattle.tomex_functions.proofs.change_laws.names_have_their_steps.Goals as goal

pub returns-clause-steps : goal.returns-clause-steps
returns-clause-steps c = names_have_their_steps

pub returns-clause-once : goal.returns-clause-once
returns-clause-once c = names_stand_once
