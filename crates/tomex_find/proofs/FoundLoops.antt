-- The results of loops, one turn later.
use Rattle.std.proofs.Common.{◌≡◌, ◌∙◌, ap, append_assoc, arith, sym, ℕ, zero, suc, ◌+◌, ◌-◌, ◌<◌, ◌≤◌, cond}
use Rattle.std.proofs.Common.{◌||◌}
use Rattle.std.proofs.Common.{List, [], ◌∷◌, ◌++◌, drop, get_or, length, Bool, true, false}
use Rattle.std.specs.List.{filter, list_any, range_with_len}
use Rattle.std.proofs.lemmas.List.{append-nil}

-- an item that doesn't pass
pub any_later : {X : Type 0} (p : X → Bool) (xs : List X) (i : ℕ) (x d : X) → i < length xs → x ≡ get_or xs i d
    → p x ≡ false → list_any p (drop i xs) ≡ list_any p (drop (suc i) xs)
any_later p [] i x d within is fails = absurd (omega (arith, within))
any_later p (y ∷ ys) zero x d within is fails = ap (λ b. b || list_any p ys) (ap p (sym is) ∙ fails)
any_later p (y ∷ ys) (suc i) x d within is fails = any_later p ys i x d (omega (arith, within)) is fails

-- an item that passes
pub any_here : {X : Type 0} (p : X → Bool) (xs : List X) (i : ℕ) (x d : X) (whole : Bool) → i < length xs
    → x ≡ get_or xs i d → p x ≡ true → list_any p (drop i xs) ≡ whole → true ≡ whole
any_here p [] i x d whole within is holds so_far = absurd (omega (arith, within))
any_here p (y ∷ ys) zero x d whole within is holds so_far =
    sym (ap (λ b. b || list_any p ys) (ap p (sym is) ∙ holds)) ∙ so_far
any_here p (y ∷ ys) (suc i) x d whole within is holds so_far =
    any_here p ys i x d whole (omega (arith, within)) is holds so_far

-- no item that passes
pub any_none : {X : Type 0} (p : X → Bool) (xs : List X) (i : ℕ) (whole : Bool) → length xs ≤ i
    → list_any p (drop i xs) ≡ whole → false ≡ whole
any_none p [] zero whole past so_far = so_far
any_none p [] (suc i) whole past so_far = so_far
any_none p (y ∷ ys) zero whole past so_far = absurd (omega (arith, past))
any_none p (y ∷ ys) (suc i) whole past so_far = any_none p ys i whole (omega (arith, past)) so_far

one_less : (k until : ℕ) → k < until → until - k ≡ suc (until - (k + 1))
one_less k until within = omega (arith, within)

-- a number that doesn't pass
pub any_after : (p : ℕ → Bool) (k until : ℕ) → k < until → p k ≡ false
    → list_any p (range_with_len k (until - k)) ≡ list_any p (range_with_len (k + 1) (until - (k + 1)))
any_after p k until within fails =
    ap (λ (n : ℕ). list_any p (range_with_len k n)) (one_less k until within)
    ∙ ap (λ b. b || list_any p (range_with_len (k + 1) (until - (k + 1)))) fails

module _ (p : ℕ → Bool) (k until : ℕ) (before : List ℕ) where
  abbrev rest : List ℕ
  rest = filter p (range_with_len (k + 1) (until - (k + 1)))

  next : k < until → before ++ filter p (range_with_len k (until - k)) ≡ before ++ cond (p k) (k ∷ rest) rest
  next within = ap (λ (n : ℕ). before ++ filter p (range_with_len k n)) (one_less k until within)

  -- a number that passes is kept
  pub kept : (after whole : List ℕ) → k < until → p k ≡ true → after ≡ before ++ k ∷ []
      → before ++ filter p (range_with_len k (until - k)) ≡ whole → after ++ rest ≡ whole
  kept after whole within passes grown so_far =
      rw grown (append_assoc before (k ∷ []) rest
      ∙ (sym (next within ∙ ap (λ b. before ++ cond b (k ∷ rest) rest) passes) ∙ so_far))

  -- and no other is
  pub dropped : (whole : List ℕ) → k < until → p k ≡ false
      → before ++ filter p (range_with_len k (until - k)) ≡ whole → before ++ rest ≡ whole
  dropped whole within fails so_far = sym (next within ∙ ap (λ b. before ++ cond b (k ∷ rest) rest) fails) ∙ so_far

  pub all_kept : (whole : List ℕ) → until ≤ k → before ++ filter p (range_with_len k (until - k)) ≡ whole
      → before ≡ whole
  all_kept whole past so_far =
      let e : until - k ≡ 0 = omega (arith, past) in
      sym (append-nil before) ∙ (sym (ap (λ (n : ℕ). before ++ filter p (range_with_len k n)) e) ∙ so_far)
