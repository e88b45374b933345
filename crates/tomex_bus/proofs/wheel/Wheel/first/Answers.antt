use Rattle.std.proofs.Common.{refl}
use Rattle.tomex_bus.proofs.Turning.{due_first}
use Rattle.tomex_bus.proofs.wheel.Wheel.first.Goals as goal

pub returns : goal.returns
returns c = due_first c.args.self.now c.self.inside.sets c.self.inside.filled c.self.inside.head _ c.self.view_is
    c.self.invariant refl
