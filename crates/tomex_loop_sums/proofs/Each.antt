-- What holds of each place of a list that grows.
use Rattle.std.proofs.Common.{ℕ, ◌+◌, ◌<◌, ◌≡◌, arith, inl, inr, sym}
use Rattle.std.proofs.Common.{List, [], ◌∷◌, ◌++◌, length, get_or, subst}
use Rattle.std.proofs.lemmas.Bool.{cases_lt}
use Rattle.std.proofs.lemmas.List.{get_or_append_left, get_or_push}

pub each_push : {X : Type 0} (P : ℕ → X → Type 0) (xs ys : List X) (x d : X) (i : ℕ) → ys ≡ xs ++ (x ∷ [])
    → length xs ≡ i → P i x → ((n : ℕ) → n < i → P n (get_or xs n d)) → (n : ℕ) → n < i + 1 → P n (get_or ys n d)
each_push P xs ys x d i is many here before n l = rw is (elim (cases_lt n i) [
  | inl low ↦
      subst (λ (y : _). P n y) (sym (get_or_append_left xs (x ∷ []) d n (omega (arith, low, many)))) (before n low)
  | inr high ↦
      let at : i ≡ n = omega (arith, l, high) in
      subst (λ (y : _). P n y) (sym (get_or_push xs x d n (omega (arith, at, many))))
      (subst (λ (m : ℕ). P m x) at here)
])
