-- A group's length is small.
use Rattle.std.proofs.lemmas.Grind.{common_steps}
use Rattle.std.proofs.Common.{◌<◌, ◌^◌, [], arith, length, sym}
use Rattle.std.proofs.lemmas.List.{get_or-map, length-map}
use Rattle.tomex_loop_sums.proofs.turns.lengths_of.Goals as goal

pub overflow_cast-len : goal.overflow_cast-len
overflow_cast-len g c =
    let read = get_or-map (λ group. group.items) c.args.groups.now c.loop-group.group-index c.group-item.result []
    c.loop-group-test.true in
    let small = c.requires c.loop-group.group-index []
    (omega (arith, c.loop-group-test.true, length-map c.args.groups.now (λ group. group.items))) in
    let few : length c.group-item.result.items < 2 ^ 32 = rw (read, sym c.group-item.is) at small in
    omega (arith, few, c.len.ensures, c.group-item.result.ok)

pub loop-group-preserved : goal.loop-group-preserved
loop-group-preserved = grind (arith, common_steps)

pub returns : goal.returns
returns = grind (arith, common_steps)
