-- Each turn adds a visit to the one around it.
use Rattle.std.proofs.Common.{ℕ, ◌≡◌, ◌-◌, ◌<◌, ◌∙◌, None, ap, arith, get_or, length, rules}
use Rattle.std.proofs.lemmas.List.{get_or_read}
use Rattle.tomex_loop_sums.specs.Extents.{is_at, is_in_visit}
use Rattle.tomex_loop_sums.proofs.Chains.{found_all, found_more, found_none, is_found, weaker}
use Rattle.tomex_loop_sums.proofs.Joining.{added_is, length_added, same_extent}
use Rattle.tomex_loop_sums.proofs.extents.extents_of_visits.Goals as goal

pub loop-v-init : goal.loop-v-init
loop-v-init g c = record {
  count = search rules;
  extents = λ v l. same_extent (λ step. is_at v (get_or c.args.here.now step None))
      (is_found c.args.within.now c.args.here.now (length c.args.within.now) v) c.args.addresses.now
      (get_or c.in_ok-extents.extents.items v None)
      (λ s m. found_none c.args.within.now c.args.here.now c.requires.lower c.requires.here v s)
      (c.in_ok-extents.ensures.extents v l);
}

pub add-requires : goal.add-requires
add-requires g c =
    weaker (get_or c.args.within.now (c.loop-v.v - 1) None) (c.loop-v.v - 1) (length c.loop-v.extents.items)
    (omega (arith, c.loop-v.invariant.count, c.loop-v.auto.v)) (c.requires.lower (c.loop-v.v - 1))

pub loop-v-preserved : goal.loop-v-preserved
loop-v-preserved g c =
    let low = weaker (get_or c.args.within.now (c.loop-v.v - 1) None) (c.loop-v.v - 1) (length c.loop-v.extents.items)
    (omega (arith, c.loop-v.invariant.count, c.loop-v.auto.v)) (c.requires.lower (c.loop-v.v - 1)) in
    let small : c.loop-v.v - 1 < length c.args.within.now = omega (arith, c.loop-v.auto.v, c.loop-v-test.true) in
    let read = get_or_read c.loop-v.extents.items (c.loop-v.v - 1) c.index-extent.result.now
    (omega (arith, small, c.loop-v.invariant.count)) c.index-extent.ensures None in
    record {
      count = rw c.add.ensures (length_added (get_or c.args.within.now (c.loop-v.v - 1) None) _ c.loop-v.extents.items
          ∙ c.loop-v.invariant.count);
      extents = λ u l. rw c.add.ensures (added_is (is_found c.args.within.now c.args.here.now c.loop-v.v u)
          (is_found c.args.within.now c.args.here.now c.loop-v.v (c.loop-v.v - 1))
          (is_found c.args.within.now c.args.here.now (c.loop-v.v - 1) u) c.args.addresses.now c.loop-v.extents.items
          (get_or c.args.within.now (c.loop-v.v - 1) None) c.index-extent.result.now u low
          (λ s m. found_more c.args.within.now c.args.here.now c.requires.lower c.requires.here (c.loop-v.v - 1)
          c.loop-v.v u s (omega (arith, c.loop-v-test.true)))
          (rw read (c.loop-v.invariant.extents (c.loop-v.v - 1) small)) (c.loop-v.invariant.extents u l));
    }

pub returns-clause-extents : goal.returns-clause-extents
returns-clause-extents g c = λ v l.
    let first : 0 ≡ c.loop-v.v = omega (arith, c.loop-v-test.false) in
    same_extent (is_found c.args.within.now c.args.here.now c.loop-v.v v)
    (is_in_visit c.args.within.now c.args.here.now v) c.args.addresses.now (get_or c.loop-v.extents.items v None)
    (λ s m. found_all c.args.within.now c.args.here.now c.requires.lower c.requires.here v s
    ∙ ap (λ (i : ℕ). is_found c.args.within.now c.args.here.now i v s) first)
    (c.loop-v.invariant.extents v l)
