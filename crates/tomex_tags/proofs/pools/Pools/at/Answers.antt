use Rattle.std.proofs.Common.{◌∙◌}
use Rattle.tomex_tags.proofs.Listening.{pool_here, unit_here}
use Rattle.tomex_tags.proofs.Slots.{at_place}
use Rattle.tomex_tags.proofs.pools.Pools.at.Goals as goal

pub returns-then-place-lt96-clause-value : goal.returns-then-place-lt96-clause-value
returns-then-place-lt96-clause-value c =
    c.at.ensures ∙ rw (c.index-self-place.is, ← c.self.view_is)
    (at_place c.self.inside.pools c.args.place _ c.self.invariant.six c.if-place-lt96.true)

pub returns-then-place-lt96-clause-own : goal.returns-then-place-lt96-clause-own
returns-then-place-lt96-clause-own c =
    unit_here _ c.args.place c.at.result c.if-place-lt96.true c.self.invariant.own
    (c.at.ensures ∙ rw c.index-self-place.is
    (at_place c.self.inside.pools c.args.place _ c.self.invariant.six c.if-place-lt96.true))

pub returns-then-place-lt96-clause-pool : goal.returns-then-place-lt96-clause-pool
returns-then-place-lt96-clause-pool c =
    pool_here _ c.args.place c.at.result c.if-place-lt96.true c.self.invariant.own
    (c.at.ensures ∙ rw c.index-self-place.is
    (at_place c.self.inside.pools c.args.place _ c.self.invariant.six c.if-place-lt96.true))
