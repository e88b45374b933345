use Rattle.std.proofs.Common.{◌<◌, ◌∙◌, List, ap, length, subst, sym, ℕ}
use Rattle.std.proofs.lemmas.List.{length-map}
use Rattle.std.specs.Prelude.{map}
use Rattle.tomex_samples.specs.Groups.{center}
use Rattle.tomex_samples.specs.Leaders.{in_order}
use Rattle.tomex_samples.specs.Near.{leaders_in}
use Rattle.tomex_samples.proofs.Limits.{none_above, some_too}
use Rattle.tomex_samples.proofs.Renewed.{all_inside, can_as, next_is, ok_more}
use Rattle.tomex_samples.proofs.Started.{order_can, order_long}
use Rattle.tomex_samples.proofs.rounds.next_leaders.Goals as goal

pub returns-clause-leaders : goal.returns-clause-leaders
returns-clause-leaders g c =
    let all = c.len.ensures ∙ c.args.stretches.now.parts.ok.0 in
    ok_more _ _ c.in_order.result c.in_order.ensures (λ v is run of.
    is ∙ (ap (in_order c.len.result) c.as_slice-2.ensures.value
    ∙ next_is run c.in_ok-near.near.items c.args.leaders.now c.in_ok-centers.centers.items c.len.result c.requires.some
    (c.in_ok-near.ensures run of)
    (c.in_ok-centers.ensures.centers run of
    ∙ ap (λ ns. map (center run (leaders_in ns)) c.args.leaders.now) c.as_slice.ensures.value)
    (all ∙ sym (ap length of.parts_are))))

pub returns-clause-some : goal.returns-clause-some
returns-clause-some g c =
    let r = c.requires.shown in
    let parts = c.args.stretches.now.parts.items in
    let all = c.len.ensures ∙ c.args.stretches.now.parts.ok.0 in
    let many = ap length (c.in_ok-centers.ensures.centers r.0 r.1) ∙ length-map c.args.leaders.now _ in
    let long = order_long parts c.in_ok-centers.centers.items (some_too _ _ many c.requires.some)
    c.in_ok-centers.ensures.can in
    ok_more _ _ c.in_order.result c.in_order.ensures (λ v is.
    subst (λ (xs : List ℕ). 0 < length xs) (sym (is ∙ (ap (in_order c.len.result) c.as_slice-2.ensures.value
    ∙ ap (λ n. in_order n c.in_ok-centers.centers.items) all))) long)

pub returns-clause-can : goal.returns-clause-can
returns-clause-can g c =
    let parts = c.args.stretches.now.parts.items in
    let all = c.len.ensures ∙ c.args.stretches.now.parts.ok.0 in
    ok_more _ _ c.in_order.result c.in_order.ensures (λ v is.
    can_as parts _ _ (is ∙ (ap (in_order c.len.result) c.as_slice-2.ensures.value
    ∙ ap (λ n. in_order n c.in_ok-centers.centers.items) all))
    (order_can parts c.in_ok-centers.centers.items c.in_ok-centers.ensures.can))

pub nearest_of-requires-clause-inside : goal.nearest_of-requires-clause-inside
nearest_of-requires-clause-inside g c = all_inside _ _ c.requires.can

pub centers_of-requires-clause-number : goal.centers_of-requires-clause-number
centers_of-requires-clause-number g c =
    let r = c.requires.shown in
    ap length c.as_slice.ensures.value ∙ ((c.in_ok-near.ensures r.0 r.1).number ∙ ap length r.1.parts_are)

pub centers_of-requires-clause-can : goal.centers_of-requires-clause-can
centers_of-requires-clause-can g c = c.requires.can

pub centers_of-requires-clause-shown : goal.centers_of-requires-clause-shown
centers_of-requires-clause-shown g c = c.requires.shown

pub overflow_cast-len : goal.overflow_cast-len
overflow_cast-len g c =
    record { fits = none_above _ _ (c.len.ensures ∙ c.args.stretches.now.parts.ok.0) c.requires.shown.1.not_many }
