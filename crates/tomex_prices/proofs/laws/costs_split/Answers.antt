use Rattle.tomex_prices.proofs.Splitting.{costs_split, stated_costs_stay}
use Rattle.tomex_prices.proofs.laws.costs_split.Goals as goal

pub returns-clause-split : goal.returns-clause-split
returns-clause-split c = costs_split

pub returns-clause-stated : goal.returns-clause-stated
returns-clause-stated c = stated_costs_stay
