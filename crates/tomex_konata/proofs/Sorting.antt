-- A list in the order of a number is, number by number, its elements of that number.
use Rattle.std.proofs.Common.{◌≡◌, ◌≢◌, inl, inr, ap, refl, arith, ℕ, suc, ◌<◌, ◌≤◌, ◌==◌, Bool, true, List, [], ◌∷◌}
use Rattle.std.proofs.Common.{◌++◌, get_or, length}
use Rattle.std.specs.Prelude.{nat_lt}
use Rattle.std.specs.List.{filter}
use Rattle.std.specs.List.Sorted.{IsNonDecreasingBy}
use Rattle.std.proofs.lemmas.Bool.{cases_Bool, cases_eq, eq-eqb, ne_eqb, eqb-true, lt-ltb, le-ltb}

-- two tests that agree keep the same items
pub filter_alike : {X : Type 0} (p q : X → Bool) → ((x : X) → p x ≡ q x) → (xs : List X) → filter p xs ≡ filter q xs
filter_alike p q alike [] = refl
filter_alike p q alike (x ∷ xs) = elim (cases_Bool (q x)) [
  | inl e ↦ rw (alike x, e) (ap (λ ys. x ∷ ys) (filter_alike p q alike xs))
  | inr e ↦ rw (alike x, e) (filter_alike p q alike xs)
]

-- the items that one test keeps are among those that a weaker one keeps
pub filter_twice : {X : Type 0} (p q : X → Bool) → ((x : X) → p x ≡ true → q x ≡ true) → (xs : List X)
    → filter p (filter q xs) ≡ filter p xs
filter_twice p q wider [] = refl
filter_twice p q wider (x ∷ xs) = elim (cases_Bool (p x)) [
  | inl e ↦ rw (wider x e, e) (ap (λ ys. x ∷ ys) (filter_twice p q wider xs))
  | inr e ↦ elim (cases_Bool (q x)) [
    | inl f ↦ rw (f, e) (filter_twice p q wider xs)
    | inr f ↦ rw (f, e) (filter_twice p q wider xs)
  ]
]

module _ {X : Type 0} (f : X → ℕ) where
  -- the numbers rise, from one on and up to another
  abbrev pub Rises : ℕ → ℕ → List X → Type 0
  Rises t last [] = Unit {0}
  Rises t last (x ∷ xs) = (t ≤ f x) × (f x ≤ last) × Rises (f x) last xs

  pub lower : (s t last : ℕ) (xs : List X) → s ≤ t → Rises t last xs → Rises s last xs
  lower s t last [] le up = tt
  lower s t last (x ∷ xs) le up = (omega (arith, le, up.0), up.1, up.2)

  abbrev pub at : ℕ → X → Bool
  at t x = f x == t

  abbrev pub later : ℕ → X → Bool
  later t x = nat_lt t (f x)

  -- no item has a number if all are greater
  pub none_at : (t last : ℕ) (xs : List X) → Rises (suc t) last xs → filter (at t) xs ≡ []
  none_at t last [] up = refl
  none_at t last (x ∷ xs) up =
      let other : f x ≢ t = omega (arith, up.0) in
      rw (ne_eqb (f x) t other) (none_at t last xs (lower (suc t) (f x) last xs up.0 up.2))

  pub all_later : (t last : ℕ) (xs : List X) → Rises (suc t) last xs → filter (later t) xs ≡ xs
  all_later t last [] up = refl
  all_later t last (x ∷ xs) up =
      rw (lt-ltb t (f x) (omega (arith, up.0)))
      (ap (λ ys. x ∷ ys) (all_later t last xs (lower (suc t) (f x) last xs up.0 up.2)))

  -- first those of the least number, then the others
  pub parted : (t last : ℕ) (xs : List X) → Rises t last xs → xs ≡ filter (at t) xs ++ filter (later t) xs
  parted t last [] up = refl
  parted t last (x ∷ xs) up = elim (cases_eq (f x) t) [
    | inl e ↦
        let rest : Rises t last xs = lower t (f x) last xs up.0 up.2 in
        rw (eq-eqb (f x) t e, le-ltb t (f x) (omega (arith, e))) (ap (λ ys. x ∷ ys) (parted t last xs rest))
    | inr n ↦
        let up' : Rises (suc t) last (x ∷ xs) = (omega (arith, n, up.0), up.1, up.2) in
        rw (none_at t last (x ∷ xs) up', all_later t last (x ∷ xs) up') refl
  ]

  pub rest_rises : (t last : ℕ) (xs : List X) → Rises t last xs → Rises (suc t) last (filter (later t) xs)
  rest_rises t last [] up = tt
  rest_rises t last (x ∷ xs) up = elim (cases_eq (f x) t) [
    | inl e ↦ rw (le-ltb t (f x) (omega (arith, e))) (rest_rises t last xs (lower t (f x) last xs up.0 up.2))
    | inr n ↦
        let up' : Rises (suc t) last (x ∷ xs) = (omega (arith, n, up.0), up.1, up.2) in
        rw (all_later t last (x ∷ xs) up') up'
  ]

  pub rest_at : (s t : ℕ) (xs : List X) → t < s → filter (at s) (filter (later t) xs) ≡ filter (at s) xs
  rest_at s t xs less = filter_twice (at s) (later t) (λ x e. lt-ltb t (f x) (let is : f x ≡ s = eqb-true (f x) s e in
      omega (arith, is, less))) xs

  -- if no number is below one before it
  pub rises : (t last : ℕ) (xs : List X) → IsNonDecreasingBy f xs
      → ((i : ℕ) (d : X) → i < length xs → t ≤ f (get_or xs i d))
      → ((i : ℕ) (d : X) → i < length xs → f (get_or xs i d) ≤ last) → Rises t last xs
  rises t last [] order low high = tt
  rises t last (x ∷ xs) order low high = (
    low 0 x (omega arith),
    high 0 x (omega arith),
    rises (f x) last xs (λ i j d le within. order (suc i) (suc j) d (omega (arith, le)) (omega (arith, within)))
        (λ i d within. order 0 (suc i) d (omega arith) (omega (arith, within)))
        (λ i d within. high (suc i) d (omega (arith, within))),
  )
