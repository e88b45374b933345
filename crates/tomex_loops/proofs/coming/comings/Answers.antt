-- The first step, one more, and all.
use Rattle.std.proofs.Common.{◌≡◌, ◌≢◌, ◌∙◌, ◌+◌, ◌-◌, ◌<◌, ◌++◌, ◌∷◌, [], ℕ, List, drop, get_or, length, reverse, ap}
use Rattle.std.proofs.Common.{arith, sym}
use Rattle.std.proofs.lemmas.Bool.{eqb-false}
use Rattle.tomex_loops.specs.declared.coming.Move.TheVariants.{On}
use Rattle.std.proofs.lemmas.List.{drop_more, get_or_read, length_push}
use Rattle.tomex_rvexec.specs.declared.step.Step.{Step}
use Rattle.tomex_loops.specs.declared.coming.Coming.{Coming}
use Rattle.tomex_loops.specs.Calls.{awaited_after, comings_after, comings_of, move_to}
use Rattle.tomex_loops.proofs.Comings.{come, comings_end, comings_more, comings_start, push_within}
use Rattle.tomex_loops.proofs.coming.comings.Goals as goal

pub loop-k-init : goal.loop-k-init
loop-k-init g c =
    let ne : length c.args.steps.now ≢ 0 =
    eqb-false (length c.args.steps.now) 0 (sym c.is_empty.ensures ∙ c.if-is_empty.false) in
    record {
      places = c.in_ok-first.ensures.known;
      many = ap (λ (xs : List Coming). length xs) (c.in_ok-push.ensures.items
          ∙ ap (λ (xs : List Coming). xs ++ come On c.in_ok-first.first ∷ []) c.new-result.ensures.items);
      within = push_within [] (come On c.in_ok-first.first) c.push.new.self.items (length c.args.steps.now)
          (λ j z h. absurd (omega (arith, h))) c.in_ok-first.ensures.below (c.in_ok-push.ensures.items
          ∙ ap (λ (xs : List Coming). xs ++ come On c.in_ok-first.first ∷ []) c.new-result.ensures.items);
      all = λ z. rw c.new-awaited.ensures.items
          (comings_start c.args.steps.now z c.in_ok-first.first c.push.new.self.items (omega (arith, ne))
          (c.in_ok-first.ensures.place z)
          (c.in_ok-push.ensures.items ∙ ap (λ (xs : List Coming). xs ++ come On c.in_ok-first.first ∷ [])
          c.new-result.ensures.items));
    }

pub loop-k-preserved : goal.loop-k-preserved
loop-k-preserved g c =
    let steps = c.args.steps.now in
    let last : c.loop-k.k < length c.args.steps.now = c.loop-k-test.true in
    let one_before : c.loop-k.k - 1 < length c.args.steps.now = omega (arith, last) in
    let up : c.loop-k.k + 1 - 1 ≡ c.loop-k.k = omega arith in
    record {
      places = c.in_ok-place.ensures.known;
      many = ap (λ (xs : List Coming). length xs) c.in_ok-push-2.ensures.items
          ∙ length_push c.loop-k.result.items (come c.in_ok-by.by c.in_ok-place.place)
          ∙ ap (λ (n : ℕ). n + 1) c.loop-k.invariant.many;
      within = push_within c.loop-k.result.items
          (come c.in_ok-by.by c.in_ok-place.place) c.push-in-loop-k.new.self.items
          (length c.args.steps.now) c.loop-k.invariant.within c.in_ok-place.ensures.below c.in_ok-push-2.ensures.items;
      all = λ z.
          let a : c.index-steps-k.result ≡ get_or c.args.steps.now (c.loop-k.k - 1) z =
          get_or_read c.args.steps.now (c.loop-k.k - 1) c.index-steps-k.result one_before c.index-steps-k.is z in
          let b : c.index-steps-k-in-loop-k.result ≡ get_or c.args.steps.now c.loop-k.k z =
          get_or_read c.args.steps.now c.loop-k.k c.index-steps-k-in-loop-k.result last c.index-steps-k-in-loop-k.is z
          in
          let before : Step = get_or c.args.steps.now (c.loop-k.k - 1) z in
          let x : Step = get_or c.args.steps.now c.loop-k.k z in
          let is_by : c.in_ok-by.by ≡ move_to (reverse c.loop-k.awaited.items) before x = c.in_ok-by.ensures.by
          ∙ ap (λ (y : Step). move_to (reverse c.loop-k.awaited.items) y
          c.index-steps-k-in-loop-k.result) a
          ∙ ap (λ (y : Step). move_to (reverse c.loop-k.awaited.items) before y) b in
          let is_then : reverse c.go.new.awaited.items
          ≡ awaited_after c.in_ok-by.by (reverse c.loop-k.awaited.items) before = c.in_ok-by.ensures.awaited
          ∙ ap (λ (y : Step). awaited_after c.in_ok-by.by (reverse c.loop-k.awaited.items) y) a in
          let all : comings_of c.args.steps.now ≡ c.loop-k.result.items
          ++ comings_after c.args.steps.now (reverse c.loop-k.awaited.items) before (x ∷ drop
          (c.loop-k.k + 1) c.args.steps.now) =
          c.loop-k.invariant.all z
          ∙ ap (λ (xs : List Step). c.loop-k.result.items
          ++ comings_after c.args.steps.now (reverse c.loop-k.awaited.items) before xs)
          (drop_more c.args.steps.now c.loop-k.k z last) in
          rw up (comings_more c.args.steps.now (comings_of c.args.steps.now) c.loop-k.result.items
          c.push-in-loop-k.new.self.items (reverse c.loop-k.awaited.items) (reverse c.go.new.awaited.items) before x
          (drop (c.loop-k.k + 1) c.args.steps.now) c.in_ok-by.by c.in_ok-place.place is_by is_then
          (c.in_ok-place.ensures.place z) c.in_ok-push-2.ensures.items all);
    }

pub returns-clause-exact : goal.returns-clause-exact
returns-clause-exact g c =
    let ne : length c.args.steps.now ≢ 0 =
    eqb-false (length c.args.steps.now) 0 (sym c.is_empty.ensures ∙ c.if-is_empty.false) in
    comings_end c.args.steps.now c.loop-k.result.items (reverse c.loop-k.awaited.items) c.loop-k.k
    c.loop-k-test.false (omega (arith, ne)) c.loop-k.invariant.all

pub returns-clause-many : goal.returns-clause-many
returns-clause-many g c =
    let ne : length c.args.steps.now ≢ 0 =
    eqb-false (length c.args.steps.now) 0 (sym c.is_empty.ensures ∙ c.if-is_empty.false) in
    omega (arith, ne, c.loop-k.invariant.many, c.loop-k-test.false, c.loop-k.auto.k-end)

pub returns-clause-places : goal.returns-clause-places
returns-clause-places g c = λ k z high.
    let ne : length c.args.steps.now ≢ 0 =
    eqb-false (length c.args.steps.now) 0 (sym c.is_empty.ensures ∙ c.if-is_empty.false) in
    let inside = c.loop-k.invariant.within k z high in
    omega (arith, ne, inside, c.loop-k.invariant.many, c.loop-k-test.false, c.loop-k.auto.k-end)
