-- The ends of one interval more are set; at the end those of all are.
use Rattle.std.proofs.Common.{◌≡◌, ℕ, arith, ap, refl, length, List, subst}
use Rattle.tomex_config.specs.Configuration.{Configuration}
use Rattle.tomex_timing.specs.declared.demands.Demands.{Demands}
use Rattle.tomex_plateaus.specs.declared.interval.Interval.{Interval}
use Rattle.tomex_plateaus.specs.Plateaus.{bounds_of, plateau_of}
use Rattle.tomex_plateaus.proofs.Comparing.{AreSplit, all_split, none_split, one_split}
use Rattle.tomex_plateaus.proofs.plateau.Plateau.of.Goals as goal

eighteen : (demands : Demands) (own : Configuration) (bounds : List Interval) → bounds ≡ bounds_of demands own
    → length bounds ≡ 18
eighteen demands own bounds are = ap (λ (xs : List Interval). length xs) are

pub loop-place-init : goal.loop-place-init
loop-place-init c = none_split _ _ _ refl refl

pub loop-place-preserved : goal.loop-place-preserved
loop-place-preserved c =
    one_split _ _ (record { least = 0; most = 0 }) _ _
    (eighteen c.args.demands.now c.args.own.now _ c.bounds_of-bounds.ensures) c.loop-place-test.true
    c.loop-place.invariant

made : (demands : Demands) (own : Configuration) (bounds : List Interval) (place : ℕ) (least most : List ℕ)
    → bounds ≡ bounds_of demands own → place ≡ 18 → AreSplit bounds place least most
    → record { least = least; most = most; total = demands.total } ≡ plateau_of demands own
made demands own bounds place least most are end split =
    let two = all_split bounds least most (eighteen demands own bounds are)
    (subst (λ (n : ℕ). AreSplit bounds n least most) end split) in
    rw (two.0, two.1, are) refl

pub returns : goal.returns
returns c =
    let end : c.loop-place.place ≡ 18 = omega (arith, c.loop-place-test.false, c.loop-place.auto.place-end) in
    made c.args.demands.now c.args.own.now c.bounds_of-bounds.result c.loop-place.place c.loop-place.least
    c.loop-place.most c.bounds_of-bounds.ensures end c.loop-place.invariant
