use Rattle.std.proofs.Common.{◌≡◌, ℕ, ◌+◌, ◌<◌, ◌∙◌, None, Bool, true, false, arith, ap, length, subst, sym, refl}
use Rattle.std.proofs.lemmas.Bool.{eq-eqb, ne_eqb}
use Rattle.std.proofs.lemmas.List.{get_or_default, get_or_read}
use Rattle.std.specs.Prelude.{◌&&◌, IsTrue, is_some, slice_index_or}
use Rattle.tomex_samples.specs.declared.nearness.Near.{Near}
use Rattle.tomex_samples.specs.Groups.{is_in}
use Rattle.tomex_samples.specs.Leaders.{can, count, counts_at, distance}
use Rattle.tomex_samples.specs.Near.{leaders_in, part_is_found}
use Rattle.tomex_samples.specs.Stretches.{Run}
use Rattle.tomex_samples.specs.Tallied.{AreOf}
use Rattle.tomex_samples.proofs.Centers.{IsBest, best_farther, best_is, best_nearer, best_other, can_is, is_in_is}
use Rattle.tomex_samples.proofs.Centers.{nearest_below}
use Rattle.tomex_samples.proofs.groups.center_by.Goals as goal
use Rattle.tomex_samples.proofs.groups.center_by.Goals.{then-is_some+then-near-k+then-distance-best}
use Rattle.tomex_samples.proofs.groups.center_by.Goals.{then-is_some+then-near-k+else-distance-best, else-is_some}
use Rattle.tomex_samples.proofs.groups.center_by.Goals.{else-is_some-via-then-is_some+else-near-k}
use Rattle.tomex_samples.proofs.groups.center_by.Goals.{else-is_some-via-else-is_some}

pub loop-k-init : goal.loop-k-init
loop-k-init g c = record {
  best = λ run of. (refl, refl);
  can = c.requires.can;
}

pub loop-k-preserved : goal.loop-k-preserved
loop-k-preserved g c =
    let none : Near = record { leader = 0; distance = 0 } in
    let k = c.loop-k.k in
    let near = c.args.near.now in
    let parts = c.args.stretches.now.parts.items in
    let leader = c.args.leader in
    let within : k < length near = omega arith in
    let inside : k < length parts = omega arith in
    let r = slice_index_or near k none in
    let read : r ≡ slice_index_or near k r = get_or_default near k none r within in
    let test : Run → ℕ → Bool = λ run j. can run j && is_in (leaders_in near) leader j in
    let far : Run → ℕ → ℕ = λ run j. distance c.args.times (counts_at run j) c.args.sums.now in
    let some : (run : Run) → AreOf run c.args.stretches.now → can run k ≡ c.is_some.result =
    λ run of. can_is run parts k c.index.result.now of.parts_are inside c.index.ensures ∙ sym c.is_some.ensures in
    let here : is_some (slice_index_or parts k None) ≡ c.is_some.result =
    ap is_some (sym (get_or_read parts k c.index.result.now inside c.index.ensures None)) ∙ sym c.is_some.ensures in
    let among = is_in_is near leader k r within read in
    elim c.if-is_some.branch [
      | then-is_some+then-near-k+then-distance-best w ↦ record {
        best = λ run of.
            let passes : test run k ≡ true =
            ap (λ b. b && is_in (leaders_in near) leader k) (some run of ∙ w.if-is_some.true)
            ∙ (among ∙ eq-eqb r.leader leader w.if-near-k.true) in
            subst (λ (x : Near). IsBest (far run) leader (nearest_below (test run) (far run) (k + 1)) x)
            (sym w.best-is)
            (best_nearer (test run) (far run) leader k w.distance-distance.result c.loop-k.best
            (c.loop-k.invariant.best run of) passes (w.distance-distance.ensures.value run of)
            w.if-distance-best.true);
        can = subst (λ (x : Near). IsTrue (part_is_found parts x.leader)) (sym w.best-is)
            (here ∙ w.if-is_some.true);
      }
      | then-is_some+then-near-k+else-distance-best w ↦ record {
        best = λ run of.
            let passes : test run k ≡ true =
            ap (λ b. b && is_in (leaders_in near) leader k) (some run of ∙ w.if-is_some.true)
            ∙ (among ∙ eq-eqb r.leader leader w.if-near-k.true) in
            subst (λ (x : Near). IsBest (far run) leader (nearest_below (test run) (far run) (k + 1)) x)
            (sym w.best-is)
            (best_farther (test run) (far run) leader k w.distance-distance.result c.loop-k.best
            (c.loop-k.invariant.best run of) passes (w.distance-distance.ensures.value run of)
            w.distance-distance.ensures.small w.if-distance-best.false);
        can = subst (λ (x : Near). IsTrue (part_is_found parts x.leader)) (sym w.best-is) c.loop-k.invariant.can;
      }
      | else-is_some w ↦ record {
        best = λ run of.
            let fails : test run k ≡ false = elim w.else-is_some.branch [
              | else-is_some-via-then-is_some+else-near-k v ↦
                  ap (λ b. b && is_in (leaders_in near) leader k) (some run of ∙ v.if-is_some.true)
                  ∙ (among ∙ ne_eqb r.leader leader v.if-near-k.false)
              | else-is_some-via-else-is_some v ↦
                  ap (λ b. b && is_in (leaders_in near) leader k) (some run of ∙ v.if-is_some.false)
            ] in
            subst (λ (x : Near). IsBest (far run) leader (nearest_below (test run) (far run) (k + 1)) x)
            (sym w.best-is)
            (best_other (test run) (far run) leader k c.loop-k.best (c.loop-k.invariant.best run of) fails);
        can = subst (λ (x : Near). IsTrue (part_is_found parts x.leader)) (sym w.best-is) c.loop-k.invariant.can;
      }
    ]

pub returns-clause-center : goal.returns-clause-center
returns-clause-center g c = λ run of.
    let all : c.loop-k.k ≡ count run = omega (arith, c.requires.number, ap length of.parts_are) in
    let test : ℕ → Bool = λ j. can run j && is_in (leaders_in c.args.near.now) c.args.leader j in
    let far : ℕ → ℕ = λ j. distance c.args.times (counts_at run j) c.args.sums.now in
    best_is far c.args.leader (nearest_below test far (count run)) c.loop-k.best
    (subst (λ (n : ℕ). IsBest far c.args.leader (nearest_below test far n) c.loop-k.best) all
    (c.loop-k.invariant.best run of))

pub returns-clause-can : goal.returns-clause-can
returns-clause-can g c = c.loop-k.invariant.can
