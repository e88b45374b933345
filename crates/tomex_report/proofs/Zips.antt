-- Facts that hold place by place.
use Rattle.std.proofs.Common.{◌≡◌, sym, subst, arith, ℕ, zero, suc, ◌<◌, List, [], ◌∷◌, length, get_or}
use Rattle.std.specs.List.{AllZip}

pub at_both : {A B : Type 0} (Q : A → B → Type 0) (xs : List A) (ys : List B) (k : ℕ) (x : A) (y : B)
    → AllZip Q xs ys → k < length xs → x ≡ get_or xs k x → y ≡ get_or ys k y → Q x y
at_both Q [] ys k x y h less e f = absurd (omega (arith, less))
at_both Q (a ∷ xs) [] k x y h less e f = absurd h
at_both Q (a ∷ xs) (b ∷ ys) zero x y h less e f = subst (λ z. Q x z) (sym f) (subst (λ z. Q z b) (sym e) h.0)
at_both Q (a ∷ xs) (b ∷ ys) (suc k) x y h less e f = at_both Q xs ys k x y h.1 (omega (arith, less)) e f
