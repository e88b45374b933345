use Rattle.std.proofs.lemmas.Grind.{common_steps}
use Rattle.std.proofs.Common.{◌≡◌, ◌<◌, ◌∙◌, ◌∷◌, [], List, ap, arith, length, subst, sym, ℕ}
use Rattle.tomex_samples.specs.Leaders.{and_farthest, in_order}
use Rattle.tomex_samples.proofs.Renewed.{can_as}
use Rattle.tomex_samples.proofs.Started.{far_can, far_some, order_can, order_long}
use Rattle.tomex_samples.proofs.choosing.leaders_from.Goals as goal

pub leaders_after-requires-clause-some : goal.leaders_after-requires-clause-some
leaders_after-requires-clause-some g c =
    let r = c.requires.shown in
    let parts = c.args.stretches.now.parts.items in
    let all : c.len.result ≡ length parts = omega arith in
    let far = far_can r.0 parts 7 c.args.first r.1.parts_are c.requires.can in
    subst (λ (xs : List ℕ). 0 < length xs) (sym (c.in_ok-first_leaders.ensures
    ∙ (ap (λ n. in_order n c.as_slice.result.now) all
    ∙ ap (in_order (length parts)) (c.as_slice.ensures.value ∙ c.in_ok-spread.ensures r.0 r.1))))
    (order_long parts (and_farthest r.0 7 (c.args.first ∷ [])) (far_some r.0 7 c.args.first) far)

pub leaders_after-requires-clause-can : goal.leaders_after-requires-clause-can
leaders_after-requires-clause-can g c =
    let r = c.requires.shown in
    let parts = c.args.stretches.now.parts.items in
    let all : c.len.result ≡ length parts = omega arith in
    let far = far_can r.0 parts 7 c.args.first r.1.parts_are c.requires.can in
    can_as parts _ _ (c.in_ok-first_leaders.ensures
    ∙ (ap (λ n. in_order n c.as_slice.result.now) all
    ∙ ap (in_order (length parts)) (c.as_slice.ensures.value ∙ c.in_ok-spread.ensures r.0 r.1)))
    (order_can parts (and_farthest r.0 7 (c.args.first ∷ [])) far)

pub spread-requires-clause-inside : goal.spread-requires-clause-inside
spread-requires-clause-inside = grind (arith, common_steps)
