use Rattle.std.proofs.Common.{arith}
use Rattle.tomex_tags.proofs.Serving.{least_open, none_before}
use Rattle.tomex_tags.proofs.pools.Pools.free.Goals as goal

pub returns-then-number-count-clause-some : goal.returns-then-number-count-clause-some
returns-then-number-count-clause-some c =
    rw (← c.self.view_is) (
      least_open _ c.self.inside.busy c.in_group.result c.place.result c.least_absent-number.result
          c.self.inside.issue_numbers c.args.pool c.self.invariant.filled c.place.ensures.place c.place.ensures.few
          (omega (arith, c.requires, c.if-number-count.true)) c.in_group.ensures
          (c.least_absent-number.ensures.absent (omega (arith, c.requires, c.if-number-count.true)))
          c.least_absent-number.ensures.least,
      c.if-number-count.true,
    )

pub returns-else-number-count-clause-none : goal.returns-else-number-count-clause-none
returns-else-number-count-clause-none c =
    rw (← c.self.view_is) (none_before c.in_group.result c.least_absent-number.result c.args.count c.args.pool
    c.self.invariant.filled c.place.ensures.place c.place.ensures.few c.least_absent-number.ensures.below
    c.in_group.ensures c.least_absent-number.ensures.least (omega (arith, c.if-number-count.false)))
