-- The cycles of a path for one reason more, and in one list more.
use Rattle.std.proofs.Common.{ℕ, ◌+◌, ◌<◌, ◌≤◌, ◌≡◌, ◌∙◌, refl, arith, inl, inr, ap, sym, List, [], ◌∷◌, ◌++◌, get_or}
use Rattle.std.proofs.Common.{length, map, set, take}
use Rattle.std.proofs.lemmas.Bool.{cases_eq}
use Rattle.std.proofs.lemmas.List.{get_or-map, get_or-set_other, get_or-set_same, length-map, map-set, take_more}
use Rattle.tomex_path.specs.declared.reason.Reason.{Reason}
use Rattle.tomex_path.specs.Laws.{all_reasons}
use Rattle.tomex_loop_views.specs.declared.charges.Charge.{Charge}
use Rattle.tomex_loop_views.specs.Charges.{with_reason, with_reasons}

reasons_push : (f : Reason → ℕ) (reasons : List Reason) (r : Reason) (charges : List Charge)
    → with_reasons f (reasons ++ r ∷ []) charges ≡ with_reason r (f r) (with_reasons f reasons charges)
reasons_push f [] r charges = refl
reasons_push f (x ∷ reasons) r charges = reasons_push f reasons r (with_reason x (f x) charges)

-- one more reason
pub reasons_more : (f : Reason → ℕ) (k : ℕ) (r d : Reason) (old new : List Charge) → k < length all_reasons
    → r ≡ get_or all_reasons k d → old ≡ with_reasons f (take k all_reasons) [] → new ≡ with_reason r (f r) old
    → new ≡ with_reasons f (take (k + 1) all_reasons) []
reasons_more f k r d old new l is so_far added =
    let more : take (k + 1) all_reasons ≡ take k all_reasons ++ r ∷ [] =
    take_more all_reasons k d l ∙ ap (λ z. take k all_reasons ++ z ∷ []) (sym is) in
    rw (more, added, so_far) (sym (reasons_push f (take k all_reasons) r []))

-- one more list, and the others as they were
module _ {G : Type 0} (f : G → List Charge) (groups : List G) (n : ℕ) (old new : G) (l : n < length groups)
    (is : old ≡ get_or groups n old) where
  pub list_at : get_or (map f (set groups n new)) n [] ≡ f new
  list_at = ap (λ (xs : List (List Charge)). get_or xs n []) (map-set f groups n new)
      ∙ get_or-set_same (map f groups) n (f new) [] (omega (arith, l, length-map groups f))

  pub list_other : (m : ℕ) → (m ≡ n → ⊥) → get_or (map f (set groups n new)) m [] ≡ get_or (map f groups) m []
  list_other m other = ap (λ (xs : List (List Charge)). get_or xs m []) (map-set f groups n new)
      ∙ get_or-set_other (map f groups) n m (f new) [] other

  pub list_was : get_or (map f groups) n [] ≡ f old
  list_was = get_or-map f groups n old [] l ∙ ap f (sym is)

  -- those before and at a place have more, and those after it have what they had
  pub added_more : (had : ℕ → List Charge) (with : ℕ → List Charge → List Charge)
      → ((m : ℕ) → m < n → get_or (map f groups) m [] ≡ with m (had m))
      → ((m : ℕ) → n ≤ m → get_or (map f groups) m [] ≡ had m) → f new ≡ with n (f old)
      → (m : ℕ) → m < n + 1 → get_or (map f (set groups n new)) m [] ≡ with m (had m)
  added_more had with added left here m low = elim (cases_eq m n) [
    | inl same ↦ ap (λ (k : ℕ). get_or (map f (set groups n new)) k []) same ∙ list_at ∙ here
        ∙ ap (λ (xs : List Charge). with n xs) (sym list_was ∙ left n (omega arith))
        ∙ ap (λ (k : ℕ). with k (had k)) (sym same)
    | inr other ↦ list_other m other ∙ added m (omega (arith, low, other))
  ]

  pub left_more : (had : ℕ → List Charge) → ((m : ℕ) → n ≤ m → get_or (map f groups) m [] ≡ had m)
      → (m : ℕ) → n + 1 ≤ m → get_or (map f (set groups n new)) m [] ≡ had m
  left_more had left m high =
      list_other m (λ (same : m ≡ n). absurd (omega (arith, same, high))) ∙ left m (omega (arith, high))
