-- The number of members of a set.
use Rattle.std.proofs.Common.{ℕ, zero, suc, ◌+◌, Bool, true, false, ◌≡◌, ◌≤◌, ◌<◌, ◌∙◌, arith, inl, inr, ap, refl, sym}
use Rattle.std.specs.Prelude.{◌≢◌, if◌then◌else◌}
use Rattle.std.proofs.lemmas.Bool.{cases_Bool, cases_order}
use Rattle.tomex_bus.specs.Sets.{count_below, has, size_of, IsWith, IsWithout}
use Rattle.tomex_bus.proofs.Bits.{none_in}

count_suc : (test : ℕ → Bool) (n : ℕ) → count_below test (suc n) ≡ (if test n then 1 else 0) + count_below test n
unfolding count_below
count_suc test n = refl

count_zero : (test : ℕ → Bool) → count_below test 0 ≡ 0
unfolding count_below
count_zero test = refl

-- two tests that agree count the same
pub count_same : (f g : ℕ → Bool) (n : ℕ) → ((x : ℕ) → x < n → f x ≡ g x) → count_below f n ≡ count_below g n
count_same f g zero each = count_zero f ∙ sym (count_zero g)
count_same f g (suc n) each =
    let before : count_below f n ≡ count_below g n = count_same f g n (λ x l. each x (omega arith)) in
    count_suc f n ∙ (rw (each n (omega arith), before) refl ∙ sym (count_suc g n))

-- a test that passes none counts none
pub count_none : (f : ℕ → Bool) (n : ℕ) → ((x : ℕ) → x < n → f x ≡ false) → count_below f n ≡ 0
count_none f zero each = count_zero f
count_none f (suc n) each = count_suc f n ∙ rw (each n (omega arith), count_none f n (λ x l. each x (omega arith))) refl

-- one more number
pub count_one : (f g : ℕ → Bool) (x n : ℕ) → x < n → f x ≡ false → g x ≡ true → ((y : ℕ) → y < n → y ≢ x → g y ≡ f y)
    → count_below g n ≡ count_below f n + 1
count_one f g x zero l off on others = absurd (omega arith)
count_one f g x (suc n) l off on others = elim (cases_order x n) [
  | inl e ↦
      let here : f n ≡ false = ap f (sym e) ∙ off in
      let there : g n ≡ true = ap g (sym e) ∙ on in
      let before : count_below g n ≡ count_below f n =
      count_same g f n (λ y k. others y (omega arith) (λ z. absurd (omega arith))) in
      let old : count_below f (suc n) ≡ count_below f n = count_suc f n ∙ rw here (omega arith) in
      let new : count_below g (suc n) ≡ 1 + count_below g n = count_suc g n ∙ rw there refl in
      omega arith
  | inr (inl less) ↦
      let before : count_below g n ≡ count_below f n + 1 =
      count_one f g x n less off on (λ y k. others y (omega arith)) in
      let same : g n ≡ f n = others n (omega arith) (λ z. absurd (omega arith)) in
      let new : count_below g (suc n) ≡ (if f n then 1 else 0) + count_below g n = count_suc g n ∙ rw same refl in
      let old : count_below f (suc n) ≡ (if f n then 1 else 0) + count_below f n = count_suc f n in
      omega arith
  | inr (inr more) ↦ absurd (omega arith)
]

-- a test that passes no two counts at most one
pub count_single : (f : ℕ → Bool) (n : ℕ) → ((a b : ℕ) → a < n → b < n → f a ≡ true → f b ≡ true → a ≡ b)
    → count_below f n ≤ 1
count_single f zero single = let e : count_below f 0 ≡ 0 = count_zero f in omega arith
count_single f (suc n) single = elim (cases_Bool (f n)) [
  | inl on ↦
      let before : count_below f n ≡ 0 = count_none f n (λ x l. elim (cases_Bool (f x)) [
        | inr e ↦ e
        | inl e ↦ let same : x ≡ n = single x n (omega arith) (omega arith) e on in absurd (omega arith)
      ]) in
      let here : count_below f (suc n) ≡ 1 + count_below f n = count_suc f n ∙ rw on refl in
      omega arith
  | inr off ↦
      let before : count_below f n ≤ 1 = count_single f n (λ a b l m. single a b (omega arith) (omega arith)) in
      let here : count_below f (suc n) ≡ count_below f n = count_suc f n ∙ rw off (omega arith) in
      omega arith
]

pub size_none : (set : ℕ) → set ≡ 0 → size_of set ≡ 0
size_none set e = count_none (has set) 128 (λ x l. rw e (none_in x))

pub size_with : (set x new : ℕ) → x < 128 → has set x ≡ false → IsWith set x new → size_of new ≡ size_of set + 1
size_with set x new l off with = count_one (has set) (has new) x 128 l off with.same (λ y k. with.others y)

pub size_without : (set x new : ℕ) → x < 128 → has set x ≡ true → IsWithout set x new → size_of set ≡ size_of new + 1
size_without set x new l on without =
    count_one (has new) (has set) x 128 l without.same on (λ y k apart. sym (without.others y k apart))
