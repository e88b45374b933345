-- One empty group more.
use Rattle.std.proofs.Common.{[], ◌∙◌, ap, map, replicate}
use Rattle.tomex_loop_sums.proofs.Sofar.{counted, group_more}
use Rattle.tomex_loop_sums.proofs.groups.no_groups.Goals as goal

pub loop-preserved : goal.loop-preserved
loop-preserved g c =
    group_more (λ group. group.items) c.loop.groups.items _ c.new.result c.loop.counter c.in_ok-push.ensures.items
    c.new.ensures.items c.loop.invariant

pub returns : goal.returns
returns g c =
    c.loop.invariant ∙ ap (λ n. replicate n []) (counted _ _ c.loop.auto.counter-end c.loop-test.false)

pub loop-init : goal.loop-init
loop-init g c = ap (map (λ group. group.items)) c.new-groups.ensures.items
