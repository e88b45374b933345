-- The same of a history, in the other order.
use Rattle.tomex_stretches.proofs.Totals.{runs_add_up, stretches_take_their_floors}
use Rattle.tomex_stretches.proofs.laws.runs_take_their_floors.Goals as goal

pub returns-clause-cycles : goal.returns-clause-cycles
returns-clause-cycles c = runs_add_up

pub returns-clause-floors : goal.returns-clause-floors
returns-clause-floors c = stretches_take_their_floors
