-- One more place: without a loop it jumps nowhere, else to the head of its loop or from there.
use Rattle.std.proofs.lemmas.Grind.{common_steps}
use Rattle.std.proofs.Common.{◌≡◌, ◌∙◌, ◌+◌, ◌<◌, ℕ, List, Option, ap, arith, length, subst, sym}
use Rattle.std.specs.Prelude.{IfSome}
use Rattle.std.proofs.lemmas.List.{length_push}
use Rattle.tomex_loops.specs.Jumps.{AreJumps}
use Rattle.tomex_loops.specs.Loops.{is_in_loop}
use Rattle.tomex_loops.specs.Ways.{loop_in}
use Rattle.tomex_loops.proofs.Jumps.{in_around, jumps_push}
use Rattle.tomex_loops.proofs.forest.jumps_of.Goals as goal
use Rattle.tomex_loops.proofs.forest.jumps_of.Goals.{in-None+in_ok-push-in-None+in_ok-push-in-None-2}
use Rattle.tomex_loops.proofs.forest.jumps_of.Goals.{in-Some+in_ok-push-in-Some+in_ok-push-in-Some-2}

pub loop-place-preserved : goal.loop-place-preserved
loop-place-preserved g c =
    let n : length c.loop-place.jumps.items ≡ c.loop-place.place = c.loop-place.invariant.many in
    elim c.match-loops-place.branch [
      | in-None+in_ok-push-in-None+in_ok-push-in-None-2 w ↦ record {
        many = rw w.jumps-is (ap (λ (xs : List ℕ). length xs) w.in_ok-push-in-None.ensures.items
            ∙ length_push c.loop-place.jumps.items c.loop-place.place ∙ ap (λ (k : ℕ). k + 1) n);
        depths = rw w.depths-is (ap (λ (xs : List ℕ). length xs) w.in_ok-push-in-None-2.ensures.items
            ∙ length_push c.loop-place.depths.items 0 ∙ ap (λ (k : ℕ). k + 1) c.loop-place.invariant.depths);
        jumps = rw w.jumps-is (subst (λ (xs : List ℕ). AreJumps c.args.loops.now xs)
            (sym w.in_ok-push-in-None.ensures.items)
            (jumps_push c.args.loops.now c.loop-place.jumps.items c.loop-place.place c.loop-place.invariant.jumps
            (omega (arith, n))
            (λ h some. absurd (cc (some, w.in-None.is, n)))
            (λ v le. ap (λ (y : ℕ). is_in_loop (loop_in c.args.loops.now) v y) n)));
      }
      | in-Some+in_ok-push-in-Some+in_ok-push-in-Some-2 w ↦
          let low : w.in-Some.head < c.loop-place.place =
          subst (λ (o : Option ℕ). IfSome o (λ h. h < c.loop-place.place)) w.in-Some.is
          (c.requires.lower c.loop-place.place) in
          let j : ℕ = w.jump_from-jump.result in
          let short = w.jump_from-jump.ensures.low in
          record {
            many = rw w.jumps-is (ap (λ (xs : List ℕ). length xs) w.in_ok-push-in-Some.ensures.items
                ∙ length_push c.loop-place.jumps.items w.jump_from-jump.result ∙ ap (λ (k : ℕ). k + 1) n);
            depths = rw w.depths-is (ap (λ (xs : List ℕ). length xs) w.in_ok-push-in-Some-2.ensures.items
                ∙ length_push c.loop-place.depths.items _ ∙ ap (λ (k : ℕ). k + 1) c.loop-place.invariant.depths);
            jumps = rw w.jumps-is (subst (λ (xs : List ℕ). AreJumps c.args.loops.now xs)
                (sym w.in_ok-push-in-Some.ensures.items)
                (jumps_push c.args.loops.now c.loop-place.jumps.items w.jump_from-jump.result
                c.loop-place.invariant.jumps
                (omega (arith, n, low, short))
                (λ h some. omega (arith, n, low, short))
                (λ v le. ap (λ (y : ℕ). is_in_loop (loop_in c.args.loops.now) v y) n
                ∙ in_around (loop_in c.args.loops.now) c.requires.lower c.loop-place.place w.in-Some.head v w.in-Some.is
                (omega (arith, le, low, short))
                ∙ w.jump_from-jump.ensures.far c.args.loops.now v
                (subst (λ (xs : List ℕ). AreJumps c.args.loops.now xs)
                (sym w.deref.ensures.value) c.loop-place.invariant.jumps) le)));
          }
    ]

pub jump_from-jump-requires-clause-head : goal.jump_from-jump-requires-clause-head
jump_from-jump-requires-clause-head = grind (arith, common_steps)
