-- Each turn adds an item to the group of its key.
use Rattle.std.proofs.lemmas.Grind.{common_steps}
use Rattle.std.proofs.Common.{◌∙◌, arith, get_or}
use Rattle.std.proofs.lemmas.List.{length-set}
use Rattle.tomex_loop_sums.proofs.Grouping.{group_more}
use Rattle.tomex_loop_sums.proofs.groups.grouped.Goals as goal

pub loop-k-preserved : goal.loop-k-preserved
loop-k-preserved g c = record {
  count = length-set c.loop-k.groups.items (get_or c.args.keys.now c.loop-k.k 0) c.push.new.self
      ∙ c.loop-k.invariant.count;
  groups = λ n l. group_more (λ group. group.items) c.loop-k.groups.items c.args.keys.now c.args.items.now c.loop-k.k n
      c.index-items-k.result c.index_mut.result.now c.push.new.self c.requires.pairs c.loop-k-test.true
      (let small = c.requires.keys c.loop-k.k 0 c.loop-k-test.true in omega (arith, small, c.loop-k.invariant.count))
      c.index_mut.ensures.value c.index-items-k.is c.in_ok-push.ensures.items (c.loop-k.invariant.groups n l);
}

pub returns-clause-groups : goal.returns-clause-groups
returns-clause-groups = grind (arith, common_steps)

pub loop-k-init : goal.loop-k-init
loop-k-init = grind (arith, common_steps)
