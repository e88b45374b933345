use Rattle.tomex_bus.proofs.Turning.{passed_on}
use Rattle.tomex_bus.proofs.wheel.Wheel.pass.Goals as goal

pub returns : goal.returns
returns c = passed_on c.args.self.now _ _ _ _ c.args.cycles c.self.view_is c.self.invariant c.from.ensures c.requires
