-- A known total is right.
use Rattle.tomex_plateaus.specs.Knowledge.{IsTotalAt}
use Rattle.std.proofs.Common.{Option, ℕ, subst}
use Rattle.tomex_plateaus.proofs.knowledge.Knowledge.total_of.Goals as goal

pub returns-in-Some-clause-total : goal.returns-in-Some-clause-total
returns-in-Some-clause-total g c =
    subst (λ (o : Option ℕ). IsTotalAt c.args.self.now.programs c.args.config.now c.args.place o) c.in-Some.is
    c.requires.known
