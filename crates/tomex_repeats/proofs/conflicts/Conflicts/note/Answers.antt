-- One step more, and one access more if it is one.
use Rattle.std.proofs.lemmas.Grind.{common_steps}
use Rattle.std.proofs.Common.{arith, ◌≡◌, ◌-◌, ◌<◌, ◌∙◌, length, sym, true, false}
use Rattle.tomex_repeats.proofs.Noted.{noted_first, noted_step}
use Rattle.tomex_repeats.proofs.conflicts.Conflicts.note.Goals as goal
use Rattle.tomex_repeats.proofs.conflicts.Conflicts.note.Goals.{then-is_some+in_ok-push-2, else-is_some}

pub loop-place-init : goal.loop-place-init
loop-place-init g c =
    let places = c.args.self.now.accesses in
    let e : c.saturating_sub-from.result ≡ length places.items - 4 =
    omega (arith, c.saturating_sub-from.ensures, c.len.ensures, places.ok.0) in
    rw e (noted_first c.args.facts.now c.args.first places.items c.args.self.now.masks.items c.requires.places
    c.requires.masks)

pub loop-place-preserved : goal.loop-place-preserved
loop-place-preserved g c =
    let places = c.loop-place.self.accesses.items in
    let masks = c.loop-place.self.masks.items in
    let there : c.loop-place.place < length c.args.facts.now = omega arith in
    elim c.if-is_some.branch [
      | then-is_some+in_ok-push-2 w ↦ rw (w.self-is, w.in_ok-push-2.ensures.items, c.in_ok-push.ensures.items)
          (noted_step c.args.facts.now c.args.self.now.masks.items c.saturating_sub-from.result c.args.first
          c.loop-place.place places masks c.mask_of-mask.result _ true c.deref.result.now c.loop-place.invariant
          c.loop-place.auto.place there c.deref.ensures.value c.mask_of-mask.ensures
          (sym c.is_some.ensures ∙ w.if-is_some.true))
      | else-is_some w ↦ rw (w.self-is, c.in_ok-push.ensures.items)
          (noted_step c.args.facts.now c.args.self.now.masks.items c.saturating_sub-from.result c.args.first
          c.loop-place.place places masks c.mask_of-mask.result _ false c.deref.result.now c.loop-place.invariant
          c.loop-place.auto.place there c.deref.ensures.value c.mask_of-mask.ensures
          (sym c.is_some.ensures ∙ w.if-is_some.false))
    ]

pub returns-clause-places : goal.returns-clause-places
returns-clause-places g c =
    let e : c.args.end ≡ c.loop-place.place = omega arith in
    rw e c.loop-place.invariant.accesses

pub returns-clause-masks : goal.returns-clause-masks
returns-clause-masks g c =
    let e : c.args.end ≡ c.loop-place.place = omega arith in
    rw e c.loop-place.invariant.are

pub returns-clause-known : goal.returns-clause-known
returns-clause-known g c = omega (arith, c.loop-place.invariant.known)

pub mask_of-mask-requires-clause-there : goal.mask_of-mask-requires-clause-there
mask_of-mask-requires-clause-there = grind (arith, common_steps)
