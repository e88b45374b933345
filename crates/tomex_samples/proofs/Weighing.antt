-- The part with the most, and the others by it.
use Rattle.std.proofs.Common.{◌≡◌, ℕ, zero, suc, ◌*◌, ◌<◌, ◌≤◌, List, [], ◌∷◌, length, All, refl, sym, ◌∙◌, ap, arith}
use Rattle.std.proofs.Common.{subst, inl, inr, Bool, true, false}
use Rattle.std.proofs.Math.Nat.{le_of_mul-le-mul_right}
use Rattle.std.proofs.lemmas.Bool.{cases_lt, le-ltb, lt-ltb}
use Rattle.std.proofs.lemmas.Nat.{mul-le}
use Rattle.std.specs.Prelude.{◌⊎◌, if◌then◌else◌, map, nat_lt, slice_index_or}
use Rattle.tomex_samples.specs.declared.weights.Share.{Share}
use Rattle.tomex_samples.specs.Parts.{all_weighed, heavier, heaviest, weighed}
use Rattle.tomex_samples.specs.Weighable.{AreShares, IsShare}

-- a part stands for no more stretches by its steps than another
abbrev pub IsNoMore : Share → Share → Type 0
IsNoMore a b = a.stretches * b.steps ≤ b.stretches * a.steps

no_more_than : (a b c : Share) → 1 ≤ b.steps → IsNoMore a b → IsNoMore b c → IsNoMore a c
no_more_than a b c some one two =
    let first = mul-le (a.stretches * b.steps) c.steps (b.stretches * a.steps) c.steps one (omega arith) in
    let second = mul-le (b.stretches * c.steps) a.steps (c.stretches * b.steps) a.steps two (omega arith) in
    let both : a.stretches * c.steps * b.steps ≤ c.stretches * a.steps * b.steps = omega (arith, first, second) in
    le_of_mul-le-mul_right {k = b.steps} both (omega arith)

pub record IsMost (xs : List Share) (first most : Share) : Type 0 where
  pub share : IsShare most
  pub one : IsNoMore first most
  pub each : All (λ a. IsNoMore a most) xs

pub heaviest_most : (xs : List Share) (first : Share) → All IsShare xs → IsShare first
    → IsMost xs first (heaviest xs first)
heaviest_most [] first all is = record {
  share = is;
  one = omega arith;
  each = λ k d h. absurd (omega (arith, h));
}
heaviest_most (x ∷ xs) first all is =
    at (λ h share. heaviest_most xs h (λ k d less. all (suc k) d (omega arith)) share)
    (cases_lt (first.stretches * x.steps) (x.stretches * first.steps))
  where
    taken : ((h : Share) → IsShare h → IsMost xs h (heaviest xs h)) → (h : Share) → heavier first x ≡ h → IsShare h
        → IsNoMore first h → IsNoMore x h → IsMost (x ∷ xs) first (heaviest xs (heavier first x))
    taken before h e share one two =
        subst (λ (y : Share). IsMost (x ∷ xs) first (heaviest xs y)) (sym e)
        (let rest = before h share in record {
          share = rest.share;
          one = no_more_than first h (heaviest xs h) share.some one rest.one;
          each = λ k d less. each rest k d less;
        })
      where
        each : IsMost xs h (heaviest xs h) → (k : ℕ) (d : Share) → k < length (x ∷ xs)
            → IsNoMore (slice_index_or (x ∷ xs) k d) (heaviest xs h)
        each rest zero d less = no_more_than x h (heaviest xs h) share.some two rest.one
        each rest (suc k) d less = rest.each k d (omega arith)

    at : ((h : Share) → IsShare h → IsMost xs h (heaviest xs h))
        → (first.stretches * x.steps < x.stretches * first.steps)
        ⊎ (x.stretches * first.steps ≤ first.stretches * x.steps)
        → IsMost (x ∷ xs) first (heaviest xs (heavier first x))
    at before (inl less) =
        taken before x (ap (λ (b : Bool). if b then x else first)
        (lt-ltb (first.stretches * x.steps) (x.stretches * first.steps) less)) (all 0 first (omega arith))
        (omega (arith, less)) (omega arith)
    at before (inr more) =
        taken before first (ap (λ (b : Bool). if b then x else first)
        (le-ltb (first.stretches * x.steps) (x.stretches * first.steps) more)) is (omega arith) more

-- the part with the most stands for some stretches
pub most_some : (shares : List Share) (first : Share) → AreShares shares → IsMost shares first (heaviest shares first)
    → 1 ≤ (heaviest shares first).stretches
most_some shares first are most = at (cases_lt 0 (heaviest shares first).stretches)
  where
    k : ℕ
    k = are.some.0

    a : Share
    a = are.some.1

    at : (0 < (heaviest shares first).stretches) ⊎ ((heaviest shares first).stretches ≤ 0)
        → 1 ≤ (heaviest shares first).stretches
    at (inl less) = less
    at (inr none) =
        let is : IsNoMore a (heaviest shares first) =
        subst (λ (s : Share). IsNoMore s (heaviest shares first)) are.some.3 (most.each k a are.some.2) in
        let zero_is : (heaviest shares first).stretches ≡ 0 = omega arith in
        let product : (heaviest shares first).stretches * a.steps ≡ 0 = ap (λ n. n * a.steps) zero_is ∙ omega arith in
        let more = mul-le 1 1 a.stretches (heaviest shares first).steps are.some.4 most.share.some in
        absurd (omega (arith, is, product, more))

-- with the first part among the others
pub all_weighed_is : (shares : List Share) (first : Share) → 0 < length shares → first ≡ slice_index_or shares 0 first
    → map (weighed (heaviest shares first)) shares ≡ all_weighed shares
all_weighed_is [] first some read = absurd (omega (arith, some))
all_weighed_is (a ∷ others) first some read =
    ap (λ (m : Share). map (weighed m) (a ∷ others))
    (ap (heaviest (a ∷ others)) read
    ∙ ap (heaviest others) (same (nat_lt (a.stretches * a.steps) (a.stretches * a.steps))))
  where
    same : (b : Bool) → (if b then a else a) ≡ a
    same true = refl
    same false = refl

pub most_is : (shares : List Share) (first most : Share) → most ≡ heaviest shares first → AreShares shares
    → IsShare first → IsMost shares first most × (1 ≤ most.stretches)
most_is shares first most is are share =
    let m = heaviest_most shares first are.each share in
    subst (λ (s : Share). IsMost shares first s × (1 ≤ s.stretches)) (sym is) (m, most_some shares first are m)
