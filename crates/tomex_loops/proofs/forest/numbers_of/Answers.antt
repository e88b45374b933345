-- There are no more heads than places.
use Rattle.std.proofs.lemmas.Grind.{common_steps}
use Rattle.std.proofs.Common.{arith, get_or, false}
use Rattle.tomex_loops.proofs.Jumps.{heads_below_few}
use Rattle.tomex_loops.proofs.forest.numbers_of.Goals as goal

pub overflow_add-count : goal.overflow_add-count
overflow_add-count g c =
    let few = heads_below_few (λ y. get_or c.args.heads.now y false) c.loop-is_head.is_head-index in
    omega (arith, few, c.loop-is_head.invariant.count, c.loop-is_head-test.true, c.requires)

pub loop-is_head-preserved : goal.loop-is_head-preserved
loop-is_head-preserved = grind (arith, common_steps)
