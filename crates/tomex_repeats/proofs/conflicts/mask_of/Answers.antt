-- A bit more for one more access, of fewer than 64.
use Rattle.std.proofs.Common.{rules, arith, ◌≡◌, ◌∙◌, ap, sym, slice_index_or, get_or, reverse}
use Rattle.std.proofs.lemmas.List.{get_or_default}
use Rattle.tomex_timing.specs.Ahead.{one}
use Rattle.tomex_repeats.specs.Blocks.{do_conflict}
use Rattle.tomex_repeats.specs.Masks.{facts_at}
use Rattle.tomex_repeats.proofs.Masks.{bit_is, mask_more, mask_none, mask_small}
use Rattle.tomex_repeats.proofs.conflicts.mask_of.Goals as goal

pub overflow_mul-mask : goal.overflow_mul-mask
overflow_mul-mask c =
    let small = mask_small c.args.facts.now c.args.accesses.now c.loop-place.place-index c.loop-place.mask
    c.args.step.now c.loop-place-test.true c.requires.few c.loop-place.invariant in
    omega arith

pub overflow_add-mask : goal.overflow_add-mask
overflow_add-mask c =
    let small = mask_small c.args.facts.now c.args.accesses.now c.loop-place.place-index c.loop-place.mask
    c.args.step.now c.loop-place-test.true c.requires.few c.loop-place.invariant in
    let bit = bit_is c.do_conflict.result in
    omega (arith, bit)

pub loop-place-preserved : goal.loop-place-preserved
loop-place-preserved c = λ z.
    let p = slice_index_or c.args.accesses.now c.loop-place.place-index 0 in
    let more = mask_more c.args.facts.now c.args.accesses.now c.loop-place.place-index p c.args.step.now z
    c.loop-place-test.true (search rules) in
    let so = c.loop-place.invariant z in
    let bit = bit_is c.do_conflict.result in
    let is : c.do_conflict.result ≡ do_conflict (get_or c.args.facts.now p z) c.args.step.now =
    c.do_conflict.ensures
    ∙ ap (λ a. do_conflict a c.args.step.now) (get_or_default c.args.facts.now p _ z (search rules)) in
    omega (arith, more, so, bit.0, ap one is)

pub returns-then-is_none : goal.returns-then-is_none
returns-then-is_none c = λ z. sym (mask_none (reverse (facts_at c.args.facts.now c.args.accesses.now z))
    c.args.step.now c.if-is_none.ensures)
