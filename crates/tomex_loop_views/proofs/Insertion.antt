-- A charge goes before the first that has fewer cycles.
use Rattle.std.proofs.Common.{ℕ, zero, suc, ◌<◌, ◌≡◌, ◌∙◌, refl, ap, arith, cond, Bool, true, false, nat_lt, List}
use Rattle.std.proofs.Common.{[], ◌∷◌, ◌++◌, length, get_or, take, drop}
use Rattle.std.proofs.lemmas.Bool.Decides.{nat_tests}
use Rattle.tomex_loop_views.specs.declared.charges.Charge.{Charge}
use Rattle.tomex_loop_views.specs.Charges.{inserted}

-- none of the first k has fewer cycles than c
abbrev pub AreNoFewer : Charge → List Charge → ℕ → Type 0
AreNoFewer c charges k = (j : ℕ) (z : Charge) → j < k → nat_lt (get_or charges j z).cycles c.cycles ≡ false

fewer : (m n : ℕ) → m < n → nat_lt m n ≡ true
fewer m n h = grind (arith, nat_tests)

pub inserted_at : (c : Charge) (charges : List Charge) (k : ℕ) (z : Charge) → k < length charges
    → AreNoFewer c charges k → (get_or charges k z).cycles < c.cycles
    → inserted c charges ≡ take k charges ++ c ∷ drop k charges
inserted_at c [] k z l before is = absurd (omega (arith, l))
inserted_at c (x ∷ charges) zero z l before is =
    ap (λ (b : Bool). cond b (c ∷ x ∷ charges) (x ∷ inserted c charges)) (fewer x.cycles c.cycles is)
inserted_at c (x ∷ charges) (suc k) z l before is =
    ap (λ (b : Bool). cond b (c ∷ x ∷ charges) (x ∷ inserted c charges)) (before 0 z (omega arith))
    ∙ ap (λ (xs : List Charge). x ∷ xs) (inserted_at c charges k z (omega (arith, l))
    (λ j y h. before (suc j) y (omega (arith, h))) is)

pub inserted_end : (c : Charge) (charges : List Charge) → AreNoFewer c charges (length charges)
    → inserted c charges ≡ take (length charges) charges ++ c ∷ drop (length charges) charges
inserted_end c [] before = refl
inserted_end c (x ∷ charges) before =
    ap (λ (b : Bool). cond b (c ∷ x ∷ charges) (x ∷ inserted c charges)) (before 0 x (omega arith))
    ∙ ap (λ (xs : List Charge). x ∷ xs) (inserted_end c charges (λ j y h. before (suc j) y (omega (arith, h))))
