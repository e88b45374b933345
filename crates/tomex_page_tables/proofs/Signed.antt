-- What the text of a difference says.
use Rattle.std.proofs.Common.{ℕ, ◌<◌, ◌≡◌, ◌∙◌, ◌^◌, sym, arith, refl, inl, inr, List, ◌∷◌}
use Rattle.std.specs.Fmt.{decimal}
use Rattle.std.proofs.lemmas.Bool.{cases_order, eq-eqb, le-ltb, lt-ltb, ne_eqb}
use Rattle.std.proofs.lemmas.Fmt.{decimal_injective}
use Rattle.tomex_page_tables.specs.Laws.{Adds, DifferencesAddUp, DifferencesSayOneThing}
use Rattle.tomex_layout.specs.Differences.{distance, signed_difference}

signed_adds : (a b : ℕ) → Adds a (signed_difference a b) b
unfolding signed_difference
signed_adds a b = elim (cases_order a b) [
  | inl e ↦ rw (eq-eqb a b e) (inl (refl, sym e))
  | inr (inl l) ↦ rw (ne_eqb a b (λ (e : a ≡ b). absurd (omega arith)), lt-ltb a b l)
      (inr (inl (distance a b, refl, omega arith)))
  | inr (inr l) ↦ rw (ne_eqb a b (λ (e : a ≡ b). absurd (omega arith)), le-ltb a b (omega arith))
      (inr (inr (distance a b, refl, omega arith)))
]

pub differences_add_up : DifferencesAddUp
differences_add_up above r = (signed_adds above.row.cost r.row.cost, signed_adds above.row.cycles r.row.cycles)

-- the digits of one number
tail_same : (c : ℕ) (xs ys : List ℕ) → c ∷ xs ≡ c ∷ ys → xs ≡ ys
tail_same c xs ys e = cc

digits_same : (c m n : ℕ) → m < 2 ^ 64 → n < 2 ^ 64 → c ∷ decimal m ≡ c ∷ decimal n → m ≡ n
digits_same c m n l k e = decimal_injective m n l k (tail_same c (decimal m) (decimal n) e)

pub differences_say_one_thing : DifferencesSayOneThing
differences_say_one_thing a b c text la lb lc x y = elim x [
  | inl p ↦ elim y [
    | inl q ↦ p.1 ∙ sym q.1
    | inr (inl q) ↦ absurd (other 48 43 _ _ (sym p.0 ∙ q.1) (omega arith))
    | inr (inr q) ↦ absurd (other 48 45 _ _ (sym p.0 ∙ q.1) (omega arith))
  ]
  | inr (inl p) ↦ elim y [
    | inl q ↦ absurd (other 43 48 _ _ (sym p.1 ∙ q.0) (omega arith))
    | inr (inl q) ↦
        let n : p.0 ≡ q.0 = digits_same 43 p.0 q.0 (omega (arith, p.2)) (omega (arith, q.2)) (sym p.1 ∙ q.1) in
        omega (arith, p.2, q.2)
    | inr (inr q) ↦ absurd (other 43 45 _ _ (sym p.1 ∙ q.1) (omega arith))
  ]
  | inr (inr p) ↦ elim y [
    | inl q ↦ absurd (other 45 48 _ _ (sym p.1 ∙ q.0) (omega arith))
    | inr (inl q) ↦ absurd (other 45 43 _ _ (sym p.1 ∙ q.1) (omega arith))
    | inr (inr q) ↦
        let n : p.0 ≡ q.0 = digits_same 45 p.0 q.0 (omega (arith, p.2)) (omega (arith, q.2)) (sym p.1 ∙ q.1) in
        omega (arith, p.2, q.2)
  ]
]
  where
    head_same : (x y : ℕ) (xs ys : List ℕ) → x ∷ xs ≡ y ∷ ys → x ≡ y
    head_same x y xs ys e = cc

    other : (x y : ℕ) (xs ys : List ℕ) → x ∷ xs ≡ y ∷ ys → (x ≡ y → ⊥) → ⊥
    other x y xs ys e apart = apart (head_same x y xs ys e)
