-- Cycles that are as far after two given ones: the first that pass two tests, and what follows for others.
use Rattle.std.proofs.Common.{ℕ, ◌+◌, ◌-◌, ◌<◌, ◌≤◌, ◌≡◌, ◌∙◌, ◌==◌, Bool, true, false, arith, refl, sym, inl, inr}
use Rattle.std.proofs.Common.{nat_lt, nat_le, List, ◌∷◌, count_by}
use Rattle.std.proofs.lemmas.Bool.{cases_lt, cases_eq, cases_order, both_ways, lt-ltb, le-ltb, lt-leb, le-leb, eq-eqb}
use Rattle.std.proofs.lemmas.Bool.{ne_eqb}
use Rattle.std.proofs.lemmas.List.Sums.{sum_by-cons}
use Rattle.tomex_timing.specs.Ahead.{one}
use Rattle.tomex_timing.specs.Recurrence.{IsLeast}
use Rattle.tomex_alike.specs.Alike.{IsAsFar}

-- what passes is no earlier than those that fail
pub at_or_after : (p : ℕ → Bool) (n a : ℕ) → ((t : ℕ) → t < n → p t ≡ false) → p a ≡ true → n ≤ a
at_or_after p n a none here = elim (cases_lt a n) [
  | inl l ↦ absurd (both_ways _ (none a l) here)
  | inr l ↦ l
]

-- a test that fails before n and one that fails before m, equal from there on
pub record IsShifted (p q : ℕ → Bool) (n m : ℕ) : Type 0 where
  pub first : (t : ℕ) → t < n → p t ≡ false
  pub second : (t : ℕ) → t < m → q t ≡ false
  pub same : (t : ℕ) → p (n + t) ≡ q (m + t)

shifted_at : (p q : ℕ → Bool) (n m a b : ℕ) → IsShifted p q n m → n ≤ a → m ≤ b → a - n ≡ b - m → p a ≡ q b
shifted_at p q n m a b s l k e =
    let x : n + (a - n) ≡ a = omega arith in
    let y : m + (a - n) ≡ b = omega arith in
    rw (x, y) at (s.same (a - n))

pub least_shift : (p q : ℕ → Bool) (n m a b : ℕ) → IsShifted p q n m → IsLeast p a → IsLeast q b → IsAsFar n m a b
least_shift p q n m a b s x y =
    let l : n ≤ a = at_or_after p n a s.first x.0 in
    let k : m ≤ b = at_or_after q m b s.second y.0 in
    let e : a - n ≡ b - m = elim (cases_order (a - n) (b - m)) [
      | inl e ↦ e
      | inr (inl f) ↦ absurd (both_ways _ (y.1 (m + (a - n)) (omega arith))
          (sym (shifted_at p q n m a (m + (a - n)) s l (omega arith) (omega arith)) ∙ x.0))
      | inr (inr f) ↦ absurd (both_ways _ (x.1 (n + (b - m)) (omega arith))
          (shifted_at p q n m (n + (b - m)) b s (omega arith) k (omega arith) ∙ y.0))
    ] in
    record { first = l; second = k; far = e }

-- a cycle after two others that are as far
pub lt_shift : (n m x y i j t : ℕ) → x - n ≡ y - m → IsAsFar n m i j
    → nat_lt x (i + 1 + t) ≡ nat_lt y (j + 1 + t)
lt_shift n m x y i j t e far = elim (cases_lt x (i + 1 + t)) [
  | inl l ↦ rw (lt-ltb x (i + 1 + t) l, lt-ltb y (j + 1 + t) (omega (arith, far.first, far.second, far.far))) refl
  | inr l ↦ rw (le-ltb x (i + 1 + t) l, le-ltb y (j + 1 + t) (omega (arith, far.first, far.second, far.far))) refl
]

-- two cycles that are as far are equal, or in order, together
pub eq_far : (n m x y s t : ℕ) → IsAsFar n m x y → IsAsFar n m s t → (x == s) ≡ (y == t)
eq_far n m x y s t e f = elim (cases_eq x s) [
  | inl i ↦ rw (eq-eqb x s i, eq-eqb y t (omega (arith, e.first, e.second, e.far, f.first, f.second, f.far))) refl
  | inr i ↦ rw (
    ne_eqb x s i,
    ne_eqb y t (λ (j : y ≡ t). i (omega (
      arith,
      e.first,
      e.second,
      e.far,
      f.first,
      f.second,
      f.far,
    ))),
  ) refl
]

pub le_far : (n m x y s t : ℕ) → IsAsFar n m x y → IsAsFar n m s t → nat_le s x ≡ nat_le t y
le_far n m x y s t e f = elim (cases_lt x s) [
  | inl l ↦ rw (lt-leb s x l, lt-leb t y (omega (arith, e.first, e.second, e.far, f.first, f.second, f.far))) refl
  | inr l ↦ rw (le-leb s x l, le-leb t y (omega (arith, e.first, e.second, e.far, f.first, f.second, f.far))) refl
]

-- and they are as far t cycles later
pub later_far : (n m x y t : ℕ) → IsAsFar n m x y → IsAsFar n m (x + t) (y + t)
later_far n m x y t e = record {
  first = omega (arith, e.first);
  second = omega (arith, e.second);
  far = omega (arith, e.first, e.second, e.far);
}

pub count_far : {X : Type 0} (p q : X → Bool) (d e : X) (g h : List X) → p d ≡ q e → count_by p g ≡ count_by q h
    → count_by p (d ∷ g) ≡ count_by q (e ∷ h)
count_far p q d e g h s r =
    sum_by-cons (λ x. one (p x)) d g
    ∙ (rw (s, r) refl ∙ sym (sum_by-cons (λ x. one (q x)) e h))

-- what is as far after n and m is as far after later cycles that are
pub rest_far : (n m x y s t : ℕ) → x - n ≡ y - m → IsAsFar n m s t → x - s ≡ y - t
rest_far n m x y s t e f = omega (arith, f.first, f.second, f.far)

-- what is as far after cycles that are as far is as far
pub far_far : (n m s t u v : ℕ) → IsAsFar n m s t → IsAsFar s t u v → IsAsFar n m u v
far_far n m s t u v e f = record {
  first = omega (arith, e.first, f.first);
  second = omega (arith, e.second, f.second);
  far = omega (arith, e.first, e.second, e.far, f.first, f.second, f.far);
}
