use Rattle.std.proofs.Common.{◌≡◌, ◌<◌, ◌∙◌, ap, arith, length, sym}
use Rattle.std.proofs.lemmas.Bool.{eqb-false, eqb-true}
use Rattle.std.specs.Prelude.{is_some, position}
use Rattle.std.specs.Vec.{vec_len}
use Rattle.tomex_samples.proofs.Answered.{chosen_is, first_can, long_enough, none_is, pass_lengths, too_short}
use Rattle.tomex_samples.proofs.answer.parts.Goals as goal

pub returns-then-is_empty-clause-err : goal.returns-then-is_empty-clause-err
returns-then-is_empty-clause-err g c = λ other.
    let is : vec_len c.in_ok-stretches.stretches.parts ≡ 0 =
    eqb-true (vec_len c.in_ok-stretches.stretches.parts) 0 (sym c.if-is_empty.ensures) in
    let none : length c.in_ok-stretches.stretches.parts.items ≡ 0 = omega (arith, is) in
    too_short c.args.image.now c.args.steps c.in_ok-stretches.stretches c.in_ok-stretches.ensures.ok c.requires.0 none

pub returns-in_default-clause-err : goal.returns-in_default-clause-err
returns-in_default-clause-err g c = λ other.
    let is_not = eqb-false (vec_len c.in_ok-stretches.stretches.parts) 0 (sym c.if-is_empty.ensures) in
    let some : 0 < length c.in_ok-stretches.stretches.parts.items = omega (arith, is_not) in
    long_enough c.args.image.now c.args.steps c.in_ok-stretches.stretches c.in_ok-stretches.ensures.ok _ some
    (sym (none_is c.first_that_can.result c.in_default.not-Some)
    ∙ (c.first_that_can.ensures ∙ ap (position is_some) c.as_slice.ensures.value))

pub parts_from-requires-clause-lengths : goal.parts_from-requires-clause-lengths
parts_from-requires-clause-lengths g c =
    pass_lengths c.args.image.now c.args.steps c.in_ok-stretches.stretches c.requires.0 c.requires.1
    c.in_ok-stretches.ensures.ok

pub parts_from-requires-clause-can : goal.parts_from-requires-clause-can
parts_from-requires-clause-can g c =
    first_can c.in_ok-stretches.stretches.parts.items c.in-Some.first
    (c.in-Some.ensures ∙ ap (position is_some) c.as_slice.ensures.value)

pub returns-clause-ok : goal.returns-clause-ok
returns-clause-ok g c =
    let is_not = eqb-false (vec_len c.in_ok-stretches.stretches.parts) 0 (sym c.if-is_empty.ensures) in
    let some : 0 < length c.in_ok-stretches.stretches.parts.items = omega (arith, is_not) in
    chosen_is c.args.image.now c.args.steps c.in_ok-stretches.stretches c.in_ok-stretches.ensures.ok c.in-Some.first
    c.in_ok-parts_from.field-0.items some
    (c.in-Some.ensures ∙ ap (position is_some) c.as_slice.ensures.value) c.in_ok-parts_from.ensures
