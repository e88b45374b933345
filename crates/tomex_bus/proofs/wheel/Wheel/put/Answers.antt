use Rattle.std.proofs.Common.{arith}
use Rattle.tomex_bus.proofs.Turning.{put_pairs, put_ring}
use Rattle.tomex_bus.proofs.wheel.Wheel.put.Goals as goal

pub invariant_of-self : goal.invariant_of-self
invariant_of-self c = put_ring c.self.inside.sets c.self.inside.filled c.self.inside.head _ c.with.result
    c.with-self-inside.result c.args.number c.self.invariant (omega arith) c.with.ensures c.with-self-inside.ensures

pub returns : goal.returns
returns c = put_pairs c.args.self.now c.self.inside.sets c.self.inside.filled c.with-self-inside.result
    c.self.inside.head c.args.ahead c.with.result c.args.number c.self.view_is c.self.invariant
    (put_ring c.self.inside.sets c.self.inside.filled c.self.inside.head _ c.with.result c.with-self-inside.result
    c.args.number c.self.invariant (omega arith) c.with.ensures c.with-self-inside.ensures) c.requires.near
    c.with.ensures
