-- The keys of the functions list each function once.
use Rattle.tomex_functions.proofs.CallSums.{calls_add_up}
use Rattle.tomex_functions.proofs.RowSums.{places_add_up, rows_add_up}
use Rattle.tomex_functions.proofs.laws.functions_add_up.Goals as goal

pub returns-clause-rows : goal.returns-clause-rows
returns-clause-rows c = rows_add_up

pub returns-clause-calls : goal.returns-clause-calls
returns-clause-calls c = calls_add_up

pub returns-clause-places : goal.returns-clause-places
returns-clause-places c = places_add_up
