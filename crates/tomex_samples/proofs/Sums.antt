-- Sums over the numbers below another.
use Rattle.std.proofs.Common.{◌≡◌, ℕ, zero, suc, ◌+◌, ◌<◌, ◌≤◌, List, length, refl, sym, ap, arith, inl, inr}
use Rattle.std.proofs.lemmas.Bool.{cases_eq}
use Rattle.std.proofs.lemmas.List.{get_or-set_other, get_or-set_same}
use Rattle.std.specs.Prelude.{◌⊎◌, ◌≢◌, slice_index, slice_set}
use Rattle.tomex_samples.specs.Numbers.{sum_below}

-- equal values have equal sums
pub sum_same : (f g : ℕ → ℕ) (n : ℕ) → ((k : ℕ) → k < n → f k ≡ g k) → sum_below f n ≡ sum_below g n
sum_same f g zero h = refl
sum_same f g (suc n) h =
    let rest = sum_same f g n (λ k less. h k (omega arith)) in
    let here : f n ≡ g n = h n (omega arith) in
    omega arith

pub sum_zero : (f : ℕ → ℕ) (n : ℕ) → ((k : ℕ) → k < n → f k ≡ 0) → sum_below f n ≡ 0
sum_zero f zero h = refl
sum_zero f (suc n) h =
    let rest = sum_zero f n (λ k less. h k (omega arith)) in
    let here : f n ≡ 0 = h n (omega arith) in
    omega arith

-- one value changes
pub sum_change : (f g : ℕ → ℕ) (w n : ℕ) → w < n → ((k : ℕ) → k < n → k ≢ w → f k ≡ g k)
    → sum_below f n + g w ≡ sum_below g n + f w
sum_change f g w zero less same = absurd (omega arith)
sum_change f g w (suc n) less same =
    at (λ more others. sum_change f g w n more others) (cases_eq w n)
  where
    at : (w < n → ((k : ℕ) → k < n → k ≢ w → f k ≡ g k) → sum_below f n + g w ≡ sum_below g n + f w)
        → (w ≡ n) ⊎ (w ≡ n → ⊥) → sum_below f n + f n + g w ≡ sum_below g n + g n + f w
    at before (inl is) =
        let rest = sum_same f g n (λ k below. same k (omega arith) (omega arith)) in
        let one : f w ≡ f n = ap f is in
        let two : g w ≡ g n = ap g is in
        omega arith
    at before (inr other) =
        let rest = before (omega arith) (λ k below apart. same k (omega arith) apart) in
        let here : f n ≡ g n = same n (omega arith) (λ e. other (sym e)) in
        omega arith

-- the sum of a list with another value at a place
pub sum_set : (xs : List ℕ) (w v n : ℕ) → w < length xs → w < n
    → sum_below (λ k. slice_index (slice_set xs w v) k) n + slice_index xs w
    ≡ sum_below (λ k. slice_index xs k) n + v
sum_set xs w v n inside less =
    let here : slice_index (slice_set xs w v) w ≡ v = get_or-set_same xs w v 0 inside in
    let change =
    sum_change (λ k. slice_index (slice_set xs w v) k) (λ k. slice_index xs k) w n less
    (λ k below apart. get_or-set_other xs w k v 0 apart) in
    omega arith

-- no value is greater than the sum
pub value_most : (f : ℕ → ℕ) (w n : ℕ) → w < n → f w ≤ sum_below f n
value_most f w zero less = absurd (omega arith)
value_most f w (suc n) less = at (λ more. value_most f w n more) (cases_eq w n)
  where
    at : (w < n → f w ≤ sum_below f n) → (w ≡ n) ⊎ (w ≡ n → ⊥) → f w ≤ sum_below f n + f n
    at before (inl is) = let one : f w ≡ f n = ap f is in omega arith
    at before (inr other) = let rest = before (omega arith) in omega arith
