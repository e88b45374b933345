-- How many cycles of a wait lie from one cycle on and before another.
use Rattle.std.proofs.Common.{ℕ, zero, suc, ◌+◌, ◌-◌, ◌<◌, ◌≤◌, ◌≡◌, ◌∙◌, Bool, false, arith, refl, inl, inr, max, min}
use Rattle.std.specs.Prelude.{nat_le, not, ◌&&◌, count_by}
use Rattle.std.specs.List.{range_with_len}
use Rattle.std.proofs.lemmas.Bool.{cases_lt, le-leb}
use Rattle.std.proofs.lemmas.Bool.Decides.{nat_tests}
use Rattle.std.proofs.lemmas.List.Sums.{sum_by-cons}
use Rattle.tomex_timing.specs.Ahead.{one}
use Rattle.tomex_timing.specs.Needs.{cycles_that}

abbrev pub is_in_band : ℕ → ℕ → ℕ → Bool
is_in_band a b t = nat_le a t && not (nat_le b t)

one_step : (a b t n : ℕ) → one (is_in_band a b t) + (min b (t + 1 + n) - max a (t + 1)) ≡ min b (t + suc n) - max a t
one_step a b t n = grind (arith, nat_tests)

-- a test that passes just in a band counts its length
band_count : (p : ℕ → Bool) (a b n t : ℕ) → ((s : ℕ) → t ≤ s → s < t + n → p s ≡ is_in_band a b s)
    → count_by p (range_with_len t n) ≡ min b (t + n) - max a t
band_count p a b zero t h = let z : min b (t + 0) - max a t ≡ 0 = omega arith in rw z refl
band_count p a b (suc n) t h =
    let k : count_by p (range_with_len (t + 1) n) ≡ min b (t + 1 + n) - max a (t + 1) =
    band_count p a b n (t + 1) (λ s l m. h s (omega arith) (omega arith)) in
    let s : count_by p (range_with_len t (suc n)) ≡ one (p t) + count_by p (range_with_len (t + 1) n) =
    sum_by-cons (λ x. one (p x)) t (range_with_len (t + 1) n) in
    rw (s, k, h t (omega arith) (omega arith)) (one_step a b t n)

pub band : (p : ℕ → Bool) (a b from to : ℕ) → from ≤ a → a ≤ b → b ≤ to
    → ((s : ℕ) → from ≤ s → s < to → p s ≡ is_in_band a b s) → cycles_that p from to ≡ b - a
band p a b from to l m u h =
    let k : count_by p (range_with_len from (to - from)) ≡ min b (from + (to - from)) - max a from =
    band_count p a b (to - from) from (λ s x y. h s x (omega arith)) in
    let e : min b (from + (to - from)) - max a from ≡ b - a = omega arith in
    k ∙ e

-- of no cycles none passes
pub none_of : (p : ℕ → Bool) (from to : ℕ) → to ≤ from → cycles_that p from to ≡ 0
none_of p from to l = let e : to - from ≡ 0 = omega arith in rw e refl

-- and of cycles none of which passes
pub none_pass : (p : ℕ → Bool) (from to : ℕ) → ((t : ℕ) → from ≤ t → t < to → p t ≡ false) → cycles_that p from to ≡ 0
none_pass p from to none = elim (cases_lt to from) [
  | inl l ↦ none_of p from to (omega arith)
  | inr l ↦
      let k = band p from from from to (omega arith) (omega arith) l (λ t a b. rw (none t a b, le-leb from t a) refl) in
      omega arith
]

-- tests of which each cycle passes one count all of them
count_ways : (p q r s : ℕ → Bool) (n a : ℕ)
    → ((t : ℕ) → a ≤ t → t < a + n → one (p t) + one (q t) + one (r t) + one (s t) ≡ 1)
    → count_by p (range_with_len a n) + count_by q (range_with_len a n) + count_by r (range_with_len a n)
    + count_by s (range_with_len a n) ≡ n
count_ways p q r s zero a each = refl
count_ways p q r s (suc n) a each =
    let k = count_ways p q r s n (a + 1) (λ t l m. each t (omega arith) (omega arith)) in
    let h : one (p a) + one (q a) + one (r a) + one (s a) ≡ 1 = each a (omega arith) (omega arith) in
    rw (sum_by-cons, sum_by-cons, sum_by-cons, sum_by-cons) (omega arith)

pub four_ways : (p q r s : ℕ → Bool) (from to : ℕ)
    → ((t : ℕ) → from ≤ t → t < to → one (p t) + one (q t) + one (r t) + one (s t) ≡ 1)
    → cycles_that p from to + cycles_that q from to + cycles_that r from to + cycles_that s from to ≡ to - from
four_ways p q r s from to each = count_ways p q r s (to - from) from (λ t l m. each t l (omega arith))
