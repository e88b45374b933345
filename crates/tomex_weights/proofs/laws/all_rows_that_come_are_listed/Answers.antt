use Rattle.tomex_weights.proofs.Coming.{lists_all, lists_no_others}
use Rattle.tomex_weights.proofs.laws.all_rows_that_come_are_listed.Goals as goal

pub returns-clause-all : goal.returns-clause-all
returns-clause-all c = lists_all

pub returns-clause-only : goal.returns-clause-only
returns-clause-only c = lists_no_others
