-- One more place has the loop that it takes.
use Rattle.std.proofs.Common.{◌≡◌, ◌≢◌, ◌∙◌, ◌+◌, ◌<◌, refl, arith, ℕ, None, Option, drop, get_or, length, length-set}
use Rattle.std.proofs.Common.{set, subst, sym, take, ap, ⊎_elim}
use Rattle.std.proofs.lemmas.Bool.{cases_eq}
use Rattle.std.proofs.lemmas.List.{get_or-set_other, get_or-set_same, get_or_read}
use Rattle.tomex_loops.specs.Loops.{loop_after, loop_given}
use Rattle.tomex_loops.specs.Ways.{loop_in}
use Rattle.tomex_loops.proofs.Given.{given_elsewhere, given_here, lower_set}
use Rattle.tomex_loops.proofs.finding.give.Goals as goal

pub loop-place-preserved : goal.loop-place-preserved
loop-place-preserved g c =
    let i : ℕ = c.loop-place.place-index in
    let p : ℕ = get_or c.args.round.now c.loop-place.place-index 0 in
    let loops = c.loop-place.loops.items in
    let inside : get_or c.args.round.now c.loop-place.place-index 0 < length c.loop-place.loops.items =
    omega (arith, c.requires.round c.loop-place.place-index c.loop-place-test.true, c.loop-place.invariant.many) in
    let was : c.index-has.result.now ≡ get_or c.loop-place.loops.items
    (get_or c.args.round.now c.loop-place.place-index 0) None =
    get_or_read c.loop-place.loops.items (get_or c.args.round.now c.loop-place.place-index 0) c.index-has.result.now
    inside
    c.index-has.ensures None in
    record {
      many = length-set c.loop-place.loops.items p c.loop_given.result ∙ c.loop-place.invariant.many;
      lower = lower_set c.loop-place.loops.items p c.loop_given.result c.loop-place.invariant.lower
          c.loop_given.ensures.below inside;
      loops = λ places x known within. ⊎_elim
          (λ (here : x ≡ get_or c.args.round.now c.loop-place.place-index 0).
          subst (λ (y : ℕ). get_or (set c.loop-place.loops.items p c.loop_given.result) y None
          ≡ loop_after (drop c.args.base places) (take (i + 1) c.args.round.now) c.args.head
          (loop_in c.args.loops.now.items) y)
          (sym here)
          (get_or-set_same c.loop-place.loops.items p c.loop_given.result None inside
          ∙ c.loop_given.ensures.given places known
          ∙ ap (λ (o : Option ℕ). loop_given (drop c.args.base places) c.args.head p o) was
          ∙ given_here (drop c.args.base places) c.args.round.now c.args.head p i (loop_in c.args.loops.now.items)
          (get_or c.loop-place.loops.items p None) c.loop-place-test.true refl
          (c.loop-place.invariant.loops places p known (subst (λ
          (y : ℕ). y < length c.args.loops.now.items) here within))))
          (λ (there : x ≢ get_or c.args.round.now c.loop-place.place-index 0).
          get_or-set_other c.loop-place.loops.items p x c.loop_given.result None there
          ∙ c.loop-place.invariant.loops places x known within
          ∙ given_elsewhere (drop c.args.base places) c.args.round.now c.args.head x i (loop_in c.args.loops.now.items)
          c.loop-place-test.true (λ q. there (sym q)))
          (cases_eq x (get_or c.args.round.now c.loop-place.place-index 0));
    }
