-- The places that pass a test, found one after another.
use Rattle.std.proofs.Common.{◌≡◌, ◌∙◌, ◌+◌, ◌-◌, ◌++◌, ◌<◌, ◌≤◌, ℕ, suc, ap, append_assoc, arith, subst, sym}
use Rattle.std.proofs.Common.{true, false, Bool, List, [], ◌∷◌, All}
use Rattle.std.specs.List.{filter, range_with_len}
use Rattle.std.proofs.lemmas.List.{append-nil}
use Rattle.std.proofs.lemmas.List.Elements.{All-append, All-cons, All-nil}

module _ (p : ℕ → Bool) (n place : ℕ) where
  -- the places from one on that pass
  abbrev pub rest_from : ℕ → List ℕ
  rest_from k = filter p (range_with_len k (n - k))

  next : place < n → rest_from place ≡ filter p (place ∷ range_with_len (place + 1) (n - (place + 1)))
  next low =
      let e : n - place ≡ suc (n - (place + 1)) = omega (arith, low) in
      ap (λ (m : ℕ). filter p (range_with_len place m)) e

  pub place_added : (before : List ℕ) {after whole : List ℕ} → place < n → p place ≡ true → after ≡ before ++ place ∷ []
      → before ++ rest_from place ≡ whole → after ++ rest_from (place + 1) ≡ whole
  place_added before low passes grown so_far =
      let step : before ++ (place ∷ rest_from (place + 1)) ≡ _ = rw passes at (rw (next low) at so_far) in
      rw grown (append_assoc before (place ∷ []) (rest_from (place + 1)) ∙ step)

  pub place_left : (before : List ℕ) {whole : List ℕ} → place < n → p place ≡ false → before ++ rest_from place ≡ whole
      → before ++ rest_from (place + 1) ≡ whole
  place_left before low fails so_far = rw fails at (rw (next low) at so_far)

  pub places_found : {items whole : List ℕ} → n ≤ place → items ++ rest_from place ≡ whole → items ≡ whole
  places_found {items} past so_far =
      let none : n - place ≡ 0 = omega (arith, past) in
      sym (append-nil items) ∙ (rw none at so_far)

  pub place_within : (before : List ℕ) {after : List ℕ} → place < n → after ≡ before ++ place ∷ []
      → All (λ k. k < n) before → All (λ k. k < n) after
  place_within before low grown all =
      subst (All (λ (k : ℕ). k < n)) (sym grown) (All-append (λ (k : ℕ). k < n) before (place ∷ []) all
      (All-cons (λ (k : ℕ). k < n) place [] low (All-nil _)))
