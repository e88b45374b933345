use Rattle.tomex_weights.proofs.Percentage.{leaves_beyond, stated_at_hundred, stays_if_hundred, stays_within}
use Rattle.tomex_weights.proofs.laws.all_weights_may_be_wrong_by_the_percentage.Goals as goal

pub returns-clause-stays : goal.returns-clause-stays
returns-clause-stays c = stays_within

pub returns-clause-whatever : goal.returns-clause-whatever
returns-clause-whatever c = stays_if_hundred

pub returns-clause-leaves : goal.returns-clause-leaves
returns-clause-leaves c = leaves_beyond

pub returns-clause-stated : goal.returns-clause-stated
returns-clause-stated c = stated_at_hundred
