-- The columns add up name by name.
use Rattle.tomex_functions.proofs.AddUp.{columns_add_up, differences_add_up, totals_are_cycles}
use Rattle.tomex_functions.proofs.change_laws.changes_add_up.Goals as goal

pub returns-clause-columns : goal.returns-clause-columns
returns-clause-columns c = columns_add_up

pub returns-clause-differences : goal.returns-clause-differences
returns-clause-differences c = differences_add_up

pub returns-clause-totals : goal.returns-clause-totals
returns-clause-totals c = totals_are_cycles
