-- A difference is written with its sign.
use Rattle.tomex_page_tables.proofs.Signed.{differences_add_up, differences_say_one_thing}
use Rattle.tomex_page_tables.proofs.laws.differences_add_up.Goals as goal

pub returns-clause-sums : goal.returns-clause-sums
returns-clause-sums c = differences_add_up

pub returns-clause-texts : goal.returns-clause-texts
returns-clause-texts c = differences_say_one_thing
