-- Searches for the first cycle that passes a test.
use Rattle.std.proofs.Common.{ℕ, ◌+◌, ◌<◌, ◌≤◌, ◌≡◌, Bool, true, false, arith, refl, inl, inr}
use Rattle.std.specs.Prelude.{nat_le}
use Rattle.std.proofs.lemmas.Bool.{cases_Bool, cases_order, both_ways, lt-leb, le-leb, leb-true, and_from, and_right}
use Rattle.tomex_reservations.specs.Reservations.{IsFirst}

-- a search for a number that passes: it began at `from`, has reached t after failures only, and n passes
pub record IsSearching (p : ℕ → Bool) (from t n : ℕ) : Type 0 where
  pub begun : from ≤ t
  pub below : (s : ℕ) → from ≤ s → s < t → p s ≡ false
  pub by : t ≤ n

-- it continues by one if t fails
pub goes_on : (p : ℕ → Bool) (from t n : ℕ) → p n ≡ true → IsSearching p from t n → p t ≡ false
    → IsSearching p from (t + 1) n
goes_on p from t n passes searching fails = record {
  begun = omega (arith, searching.begun);
  below = λ s f l. elim (cases_order s t) [
    | inl e ↦ rw e fails
    | inr (inl k) ↦ searching.below s f k
    | inr (inr k) ↦ absurd (omega arith)
  ];
  by = elim (cases_order t n) [
    | inl e ↦ absurd (both_ways _ fails (rw e passes))
    | inr (inl k) ↦ omega arith
    | inr (inr k) ↦ absurd (omega (arith, searching.by))
  ];
}

-- and has found the first if t passes
pub found : (p : ℕ → Bool) (from t n : ℕ) → IsSearching p from t n → p t ≡ true → IsFirst from p t
found p from t n searching here = (
  and_from (nat_le from t) (p t) (le-leb from t searching.begun) here,
  λ s l. elim (cases_Bool (nat_le from s)) [
    | inl e ↦ let k : from ≤ s = leb-true from s e in and_right (nat_le from s) (p s) (searching.below s k l)
    | inr e ↦ rw e refl
  ],
)

-- a number that passes at once is the first
pub first_here : (p : ℕ → Bool) (from : ℕ) → p from ≡ true → IsFirst from p from
first_here p from e = (
  and_from (nat_le from from) (p from) (le-leb from from (omega arith)) e,
  λ s l. rw
      (lt-leb from s l) refl,
)
