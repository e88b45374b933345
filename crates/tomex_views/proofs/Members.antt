-- Elements of lists that pass tests.
use Rattle.std.proofs.Common.{◌≡◌, ◌≢◌, ◌∙◌, ap, arith, refl, sym, ℕ, zero, suc, ◌<◌, ◌≤◌, ◌+◌, cond, get_or}
use Rattle.std.proofs.Common.{All, Contains, List, [], ◌∷◌, Bool, true, false, ◌||◌, true≢false, inl, inr}
use Rattle.std.specs.List.{filter, list_all, list_any, range_with_len}
use Rattle.std.proofs.lemmas.Bool.{cases_Bool, cases_eq, false_from_ne_true}
use Rattle.std.proofs.lemmas.Bool.Decides.{same_from_decides}
use Rattle.std.proofs.lemmas.List.Elements.{All-cons, All-contains, All-nil}
use Rattle.std.proofs.lemmas.List.Sums.{AllPass-from_list_all, list_all-from_AllPass}

module _ {X : Type 0} (p : X → Bool) where
  -- an element that passes
  pub any_has : (xs : List X) (x : X) → Contains xs x → p x ≡ true → list_any p xs ≡ true
  any_has [] x (k, low, is) passes = absurd (omega (arith, low))
  any_has (y ∷ ys) x (zero, low, is) passes = ap (λ b. b || list_any p ys) (ap p is ∙ passes)
  any_has (y ∷ ys) x (suc k, low, is) passes =
      let rest = any_has ys x (k, omega (arith, low), is) passes in
      elim (cases_Bool (p y)) [
        | inl e ↦ ap (λ b. b || list_any p ys) e
        | inr e ↦ ap (λ b. b || list_any p ys) e ∙ rest
      ]

  -- an element that doesn't
  pub all_fails : (xs : List X) (x : X) → Contains xs x → p x ≡ false → list_all p xs ≡ false
  all_fails xs x in' fails =
      false_from_ne_true (list_all p xs)
      (λ all. true≢false (sym (All-contains (λ y. p y ≡ true) xs x (AllPass-from_list_all p xs all) in') ∙ fails))

  -- lists with the same elements
  pub all_same : (xs ys : List X) → All (Contains ys) xs → All (Contains xs) ys → list_all p xs ≡ list_all p ys
  all_same xs ys some others =
      same_from_decides (list_all p xs) (list_all p ys)
      (AllPass-from_list_all p xs, list_all-from_AllPass p xs) (
        (λ all. over ys xs some (AllPass-from_list_all p ys all)),
        (λ all. list_all-from_AllPass p ys (over xs ys others all)),
      )
    where
      over : (us vs : List X) → All (Contains us) vs → All (λ u. p u ≡ true) us → All (λ v. p v ≡ true) vs
      over us vs has all i d low = All-contains (λ u. p u ≡ true) us (get_or vs i d) all (has i d low)

-- the numbers of a range

pub below : (low n most : ℕ) → low + n ≤ most → All (λ k. k < most) (range_with_len low n)
below low zero most within = All-nil (λ k. k < most)
below low (suc n) most within =
    All-cons (λ k. k < most) low (range_with_len (low + 1) n) (omega arith) (below (low + 1) n most (omega arith))

-- those that pass a test, if just one below `most` does
module _ (p : ℕ → Bool) (k most : ℕ) (passes : p k ≡ true) (only : (j : ℕ) → j < most → j ≢ k → p j ≡ false) where
  none_in : (low n : ℕ) → k < low → low + n ≤ most → filter p (range_with_len low n) ≡ []
  none_in low zero past within = refl
  none_in low (suc n) past within =
      let rest = filter p (range_with_len (low + 1) n) in
      ap (λ b. cond b (low ∷ rest) rest) (only low (omega arith) (λ e. omega arith))
      ∙ none_in (low + 1) n (omega arith) (omega arith)

  pub only_in : (low n : ℕ) → low ≤ k → k < low + n → low + n ≤ most → filter p (range_with_len low n) ≡ k ∷ []
  only_in low zero above past within = absurd (omega arith)
  only_in low (suc n) above past within =
      let rest = filter p (range_with_len (low + 1) n) in
      let F = λ (b : Bool). cond b (low ∷ rest) rest in
      elim (cases_eq low k) [
        | inl e ↦ ap F (ap p e ∙ passes)
            ∙ (ap (λ (xs : List ℕ). low ∷ xs) (none_in (low + 1) n (omega arith) (omega arith))
            ∙ ap (λ (x : ℕ). x ∷ []) e)
        | inr e ↦ ap F (only low (omega arith) e) ∙ only_in (low + 1) n (omega arith) (omega arith) (omega arith)
      ]
