-- The laws are the lemmas.
use Rattle.tomex_path.proofs.Lengths.{links_are_short}
use Rattle.tomex_path.proofs.Reasons.{reasons_add_up}
use Rattle.tomex_path.proofs.Turned.{path_adds_up, path_rises}
use Rattle.tomex_path.proofs.laws.path_adds_up.Goals as goal

pub returns-clause-cycles : goal.returns-clause-cycles
returns-clause-cycles c = path_adds_up

pub returns-clause-steps : goal.returns-clause-steps
returns-clause-steps c = path_rises

pub returns-clause-lengths : goal.returns-clause-lengths
returns-clause-lengths c = links_are_short

pub returns-clause-reasons : goal.returns-clause-reasons
returns-clause-reasons c = reasons_add_up
