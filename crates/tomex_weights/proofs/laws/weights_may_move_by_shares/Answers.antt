use Rattle.tomex_weights.proofs.Together.{stated_at_stated, stays_by_shares}
use Rattle.tomex_weights.proofs.laws.weights_may_move_by_shares.Goals as goal

pub returns-clause-stays : goal.returns-clause-stays
returns-clause-stays c = stays_by_shares

pub returns-clause-stated : goal.returns-clause-stated
returns-clause-stated c = stated_at_stated
