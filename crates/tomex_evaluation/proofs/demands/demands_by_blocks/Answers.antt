-- The evaluation goes from block to block, and then it is at the run's end.
use Rattle.std.proofs.lemmas.Grind.{common_steps}
use Rattle.std.proofs.Common.{◌<◌, ◌≡◌, ap, arith, length}
use Rattle.std.proofs.lemmas.List.Elements.{Contains-get_or}
use Rattle.tomex_repeats.specs.declared.blocks.Block.{Block}
use Rattle.tomex_evaluation.proofs.Arrivals.{demands_there}
use Rattle.tomex_evaluation.proofs.Row.{row_next}
use Rattle.tomex_evaluation.proofs.demands.demands_by_blocks.Goals as goal

abbrev nothing : Block
nothing = record { first = 0; end = 0; number = 0 }

pub evaluate-requires-clause-block : goal.evaluate-requires-clause-block
evaluate-requires-clause-block g c =
    let l : c.loop-next.next < length c.args.blocks.now.blocks =
    omega (arith, c.loop-next-test.true, ap length c.blocks-row.ensures) in
    rw c.blocks-row.ensures (Contains-get_or c.args.blocks.now.blocks c.loop-next.next nothing l)

pub evaluate-requires-clause-at : goal.evaluate-requires-clause-at
evaluate-requires-clause-at g c =
    let before = c.loop-next.invariant.before in
    let l : c.loop-next.next < length c.args.blocks.now.blocks =
    omega (arith, c.loop-next-test.true, ap length c.blocks-row.ensures) in
    let first = (row_next before.place (length c.args.run.now) c.loop-next.next c.args.blocks.now.blocks nothing l
    before.row).0 in
    rw (c.blocks-row.ensures, first) before.at

pub total-requires : goal.total-requires
total-requires g c =
    let before = c.loop-next.invariant.before in
    let e : length c.args.blocks.now.blocks ≡ c.loop-next.next =
    omega (arith, c.loop-next-test.false, ap length c.blocks-row.ensures, before.within) in
    rw e before

pub returns-clause-demands : goal.returns-clause-demands
returns-clause-demands g c =
    let before = c.loop-next.invariant.before in
    let e : length c.args.blocks.now.blocks ≡ c.loop-next.next =
    omega (arith, c.loop-next-test.false, ap length c.blocks-row.ensures, before.within) in
    demands_there c.args.config.now c.args.run.now c.args.blocks.now before.cut c.loop-next.evaluation c.total.result
    (rw e before) c.total.ensures

pub loop-next-smaller : goal.loop-next-smaller
loop-next-smaller = grind (arith, common_steps)

pub follow-next-requires : goal.follow-next-requires
follow-next-requires = grind (arith, common_steps)

pub overflow_add-next : goal.overflow_add-next
overflow_add-next = grind (arith, common_steps)
