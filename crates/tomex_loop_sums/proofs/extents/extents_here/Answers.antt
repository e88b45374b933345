-- Each turn adds a step to its visit.
use Rattle.std.proofs.Common.{◌+◌, ◌∙◌, None, arith, get_or, refl, rules}
use Rattle.std.specs.Prelude.{◌==◌}
use Rattle.tomex_loop_sums.specs.Extents.{is_at}
use Rattle.tomex_loop_sums.proofs.Joining.{added_is, here_all, here_more, here_none, is_here, length_added, none_is}
use Rattle.tomex_loop_sums.proofs.Joining.{one_is, same_extent}
use Rattle.tomex_loop_sums.proofs.extents.extents_here.Goals as goal

pub loop-k-init : goal.loop-k-init
loop-k-init g c = record {
  count = search rules;
  extents = λ v l. none_is (is_here c.args.here.now 0 v) c.args.addresses.now c.in_ok-extents.extents.items c.args.count
      v (c.in_ok-extents.ensures.items_if_clones_equal (λ y e. search rules)) l
      (λ s m. here_none c.args.here.now v s);
}

pub add-requires : goal.add-requires
add-requires g c = rw c.loop-k.invariant.count (c.requires.here c.loop-k.k None c.loop-k-test.true)

pub loop-k-preserved : goal.loop-k-preserved
loop-k-preserved g c =
    let low = c.requires.here c.loop-k.k None c.loop-k-test.true in
    record {
      count = rw c.add.ensures (length_added (get_or c.args.here.now c.loop-k.k None) _ c.loop-k.extents.items
          ∙ c.loop-k.invariant.count);
      extents = λ v l. rw c.add.ensures (added_is (is_here c.args.here.now c.loop-k.k v) (λ step. step == c.loop-k.k)
          (is_here c.args.here.now (c.loop-k.k + 1) v) c.args.addresses.now c.loop-k.extents.items
          (get_or c.args.here.now c.loop-k.k None) _ v (rw c.loop-k.invariant.count low)
          (λ s m. here_more c.args.here.now c.loop-k.k v s)
          (one_is c.args.addresses.now c.loop-k.k _ (omega (arith, c.requires.pairs, c.loop-k-test.true)) refl refl)
          (c.loop-k.invariant.extents v l));
    }

pub returns-clause-extents : goal.returns-clause-extents
returns-clause-extents g c = λ v l.
    same_extent (is_here c.args.here.now c.loop-k.k v) (λ step. is_at v (get_or c.args.here.now step None))
    c.args.addresses.now (get_or c.loop-k.extents.items v None)
    (λ s m. here_all c.args.here.now c.loop-k.k v s (omega (arith, m, c.requires.pairs, c.loop-k-test.false)))
    (c.loop-k.invariant.extents v l)
