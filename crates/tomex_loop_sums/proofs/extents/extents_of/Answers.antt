-- Each turn adds a visit to its loop.
use Rattle.std.proofs.Common.{◌+◌, ◌<◌, ◌∙◌, None, Some, arith, get_or, length, rules}
use Rattle.std.specs.Prelude.{All, IfSome}
use Rattle.std.proofs.lemmas.List.{get_or_read}
use Rattle.tomex_loop_sums.specs.Extents.{is_in_visit, is_in_visit_of}
use Rattle.tomex_loop_sums.proofs.Chains.{first_all, first_more, first_none, is_in_first}
use Rattle.tomex_loop_sums.proofs.Joining.{added_is, length_added, none_is, same_extent}
use Rattle.tomex_loop_sums.proofs.extents.extents_of.Goals as goal

pub loop-v-init : goal.loop-v-init
loop-v-init g c = record {
  count = search rules;
  extents = λ n l. none_is (is_in_first c.args.loops.now c.args.within.now c.args.here.now 0 n) c.args.addresses.now
      c.in_ok-extents.extents.items c.args.count n
      (c.in_ok-extents.ensures.items_if_clones_equal (λ y e. search rules)) l
      (λ s m. first_none c.args.loops.now c.args.within.now c.args.here.now n s);
}

pub loop-v-preserved : goal.loop-v-preserved
loop-v-preserved g c =
    let small = c.requires.loops c.loop-v.v 0 c.loop-v-test.true in
    let inside : c.loop-v.v < length c.args.within.now = omega (arith, c.requires.visits, c.loop-v-test.true) in
    let read = get_or_read c.in_ok-of_visits.of_visits.items c.loop-v.v c.index.result.now
    (omega (arith, inside, c.in_ok-of_visits.ensures.count)) c.index.ensures None in
    record {
      count = rw c.add.ensures (length_added (Some (get_or c.args.loops.now c.loop-v.v 0)) c.index.result.now
          c.loop-v.extents.items ∙ c.loop-v.invariant.count);
      extents = λ n l. rw c.add.ensures (added_is
          (is_in_first c.args.loops.now c.args.within.now c.args.here.now c.loop-v.v n)
          (is_in_visit c.args.within.now c.args.here.now c.loop-v.v)
          (is_in_first c.args.loops.now c.args.within.now c.args.here.now (c.loop-v.v + 1) n) c.args.addresses.now
          c.loop-v.extents.items (Some (get_or c.args.loops.now c.loop-v.v 0)) c.index.result.now n
          (omega (arith, small, c.loop-v.invariant.count))
          (λ s m. first_more c.args.loops.now c.args.within.now c.args.here.now c.loop-v.v n s)
          (rw read (c.in_ok-of_visits.ensures.extents c.loop-v.v inside)) (c.loop-v.invariant.extents n l));
    }

pub returns-clause-extents : goal.returns-clause-extents
returns-clause-extents g c = λ n l.
    let all : All (λ o. IfSome o (λ v. v < length c.args.within.now)) c.args.here.now =
    rw c.requires.visits c.requires.here in
    same_extent (is_in_first c.args.loops.now c.args.within.now c.args.here.now c.loop-v.v n)
    (is_in_visit_of c.args.loops.now c.args.within.now c.args.here.now n) c.args.addresses.now
    (get_or c.loop-v.extents.items n None)
    (λ s m. first_all c.args.loops.now c.args.within.now c.args.here.now c.loop-v.v n s c.requires.lower all
    (omega (arith, c.requires.visits, c.loop-v-test.false)))
    (c.loop-v.invariant.extents n l)
