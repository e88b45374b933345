-- The cycles of one loop more.
use Rattle.std.proofs.Common.{◌∙◌, List, [], arith, get_or, map}
use Rattle.std.proofs.lemmas.List.{length-set}
use Rattle.tomex_loop_views.specs.declared.charges.Charge.{Charge}
use Rattle.tomex_loop_views.specs.Charges.{with_reason}
use Rattle.tomex_loop_views.proofs.Adding.{added_more, left_more}
use Rattle.tomex_loop_views.proofs.paths.add_to_loops.Goals as goal

pub loop-n-preserved : goal.loop-n-preserved
loop-n-preserved g c = record {
  count = length-set c.loop-n.by_loop.items c.loop-n.n c.add_reason.new.charges ∙ c.loop-n.invariant.count;
  added = added_more (λ charges. charges.items) c.loop-n.by_loop.items c.loop-n.n c.index_mut.result.now
      c.add_reason.new.charges (omega (arith, c.requires, c.loop-n-test.true, c.loop-n.invariant.count))
      c.index_mut.ensures.value (λ m. get_or (map (λ charges. charges.items) c.args.by_loop.now.items) m [])
      (λ m (charges : List Charge). with_reason c.args.reason (get_or c.args.cycles.now m 0) charges)
      c.loop-n.invariant.added c.loop-n.invariant.left c.in_ok-add_reason.ensures;
  left = left_more (λ charges. charges.items) c.loop-n.by_loop.items c.loop-n.n c.index_mut.result.now
      c.add_reason.new.charges (omega (arith, c.requires, c.loop-n-test.true, c.loop-n.invariant.count))
      c.index_mut.ensures.value (λ m. get_or (map (λ charges. charges.items) c.args.by_loop.now.items) m [])
      c.loop-n.invariant.left;
}
