-- One pass finds the best of the rows that pass.
use Rattle.std.proofs.Common.{◌≡◌, ◌⊎◌, arith, inl, inr, sym, subst, List, [], ◌∷◌, Bool, true, false}
use Rattle.std.proofs.Common.{Option, Some, None}
use Rattle.std.proofs.lemmas.Bool.{cases_Bool}
use Rattle.std.proofs.lemmas.Bool.Decides.{nat_tests}
use Rattle.tomex_pareto.specs.declared.front_row.FrontRow.{FrontRow}
use Rattle.tomex_pareto.proofs.Pareto.{Has}
use Rattle.tomex_pareto.specs.Steps.{best_of, is_next}

-- what is better than another is better than what isn't
pub record IsOrder (passes : FrontRow → Bool) (better : FrontRow → FrontRow → Bool) : Type 0 where
  pub itself : (x : FrontRow) → better x x ≡ false
  pub over : (x y a : FrontRow) → passes x ≡ true → passes y ≡ true → passes a ≡ true → better y a ≡ true
      → better x a ≡ false → better x y ≡ false

module _ (passes : FrontRow → Bool) (better : FrontRow → FrontRow → Bool) (order : IsOrder passes better) where
  -- if it passes, it isn't better than the best
  abbrev pub IsUpTo : Option FrontRow → FrontRow → Type 0
  IsUpTo None x = passes x ≡ false
  IsUpTo (Some a) x = passes x ≡ true → better x a ≡ false

  -- the best one so far passes
  abbrev pub Passes : Option FrontRow → Type 0
  Passes None = Unit {0}
  Passes (Some a) = passes a ≡ true

  up_to_next : (best : Option FrontRow) (y x : FrontRow) → Passes best → is_next passes better best y ≡ true
      → IsUpTo best x → IsUpTo (Some y) x
  up_to_next None y x ok e m = λ t. absurd (grind (arith, nat_tests))
  up_to_next (Some a) y x ok e m =
      λ t. order.over x y a t (grind (arith, nat_tests)) ok (grind (arith, nat_tests)) (m t)

  next_passes : (best : Option FrontRow) (y : FrontRow) → is_next passes better best y ≡ true → passes y ≡ true
  next_passes None y e = e
  next_passes (Some a) y e = grind (arith, nat_tests)

  not_next : (best : Option FrontRow) (y : FrontRow) → is_next passes better best y ≡ false → IsUpTo best y
  not_next None y e = e
  not_next (Some a) y e = λ t. grind (arith, nat_tests)

  stays_up_to : (best : Option FrontRow) (xs : List FrontRow) (x : FrontRow) → Passes best → IsUpTo best x
      → IsUpTo (best_of passes better best xs) x
  stays_up_to best [] x ok m = m
  stays_up_to best (y ∷ ys) x ok m = elim (cases_Bool (is_next passes better best y)) [
    | inl e ↦ rw e (stays_up_to (Some y) ys x (next_passes best y e) (up_to_next best y x ok e m))
    | inr e ↦ rw e (stays_up_to best ys x ok m)
  ]

  all_up_to : (best : Option FrontRow) (xs : List FrontRow) (x : FrontRow) → Passes best → Has xs x
      → IsUpTo (best_of passes better best xs) x
  all_up_to best [] x ok h = absurd h
  all_up_to best (y ∷ ys) x ok (inl i) = elim (cases_Bool (is_next passes better best y)) [
    | inl e ↦ rw (e, sym i) (stays_up_to (Some y) ys y (next_passes best y e) (λ t. order.itself y))
    | inr e ↦ rw (e, sym i) (stays_up_to best ys y ok (not_next best y e))
  ]
  all_up_to best (y ∷ ys) x ok (inr h) = elim (cases_Bool (is_next passes better best y)) [
    | inl e ↦ rw e (all_up_to (Some y) ys x (next_passes best y e) h)
    | inr e ↦ rw e (all_up_to best ys x ok h)
  ]

  -- the best is one of them, and passes
  abbrev pub IsOf : Option FrontRow → List FrontRow → FrontRow → Type 0
  IsOf best xs a = ((best ≡ Some a) ⊎ Has xs a) × (passes a ≡ true)

  best_is_of : (best : Option FrontRow) (xs : List FrontRow) (a : FrontRow) → Passes best
      → best_of passes better best xs ≡ Some a → IsOf best xs a
  best_is_of best [] a ok e = (inl e, let ok' : Passes (Some a) = subst Passes e ok in ok')
  best_is_of best (y ∷ ys) a ok e = elim (cases_Bool (is_next passes better best y)) [
    | inl f ↦
        let w = best_is_of (Some y) ys a (next_passes best y f) (rw f at e) in
        (elim w.0 [ inl i ↦ inr (inl (let i : Some y ≡ Some a = i in cc)) | inr h ↦ inr (inr h) ], w.1)
    | inr f ↦
        let w = best_is_of best ys a ok (rw f at e) in
        (elim w.0 [ inl i ↦ inl i | inr h ↦ inr (inr h) ], w.1)
  ]

  -- what one pass over all rows finds
  pub record IsBest (xs : List FrontRow) (a : FrontRow) : Type 0 where
    pub one : Has xs a
    pub passes_too : passes a ≡ true
    pub best : (x : FrontRow) → Has xs x → passes x ≡ true → better x a ≡ false

  pub best_found : (xs : List FrontRow) (a : FrontRow) → best_of passes better None xs ≡ Some a → IsBest xs a
  best_found xs a e = let w = best_is_of None xs a tt e in record {
    one = elim w.0 [ inl i ↦ absurd (let i : None ≡ Some a = i in cc) | inr h ↦ h ];
    passes_too = w.1;
    best = λ x h. let m : IsUpTo (Some a) x = subst (λ o. IsUpTo o x) e (all_up_to None xs x tt h) in m;
  }

  pub none_found : (xs : List FrontRow) → best_of passes better None xs ≡ None → (x : FrontRow) → Has xs x
      → passes x ≡ false
  none_found xs e x h = let m : IsUpTo None x = subst (λ o. IsUpTo o x) e (all_up_to None xs x tt h) in m
