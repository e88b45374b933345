use Rattle.tomex_bus.proofs.Bits.{lowest_out}
use Rattle.tomex_bus.proofs.small.without_lowest.Goals as goal

pub returns-clause-others : goal.returns-clause-others
returns-clause-others c = λ x member least. lowest_out c.args.set x member least
