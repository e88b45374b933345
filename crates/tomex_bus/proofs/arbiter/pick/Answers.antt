use Rattle.std.proofs.Common.{arith, rules}
use Rattle.tomex_bus.proofs.Picking.{single_picked}
use Rattle.tomex_bus.proofs.arbiter.pick.Goals as goal

pub returns-then-is_single-clause-picked : goal.returns-then-is_single-clause-picked
returns-then-is_single-clause-picked c =
    single_picked c.args.ready c.args.n c.args.issue_numbers.now (omega (arith, c.if-n-gt0.true))
    (c.is_single.ensures.0 c.if-is_single.true)

pub returns-clause-picked : goal.returns-clause-picked
returns-clause-picked c = search rules fits 100
