-- The least of the words that a seat saw in a band.
use Rattle.std.proofs.Common.{◌≡◌, ◌≢◌, ℕ, min, ◌≤◌, cond, List, [], ◌∷◌, ◌++◌, sym, refl, ap, subst, inl, inr, arith}
use Rattle.std.proofs.Common.{eq-eqb, ne_eqb}
use mathlib.Core.Logic.{dite}
use native.Mathlib.Decide.{ℕ_discrete}
use Rattle.tomex_board.specs.Words.{nothing_yet}
use Rattle.tomex_board.specs.Views.{Has, least_in}

pub least_here : (k w : ℕ) (xs : List (ℕ × ℕ)) → least_in k ((k, w) ∷ xs) ≡ min w (least_in k xs)
least_here k w xs = ap (λ b. cond b (min w (least_in k xs)) (least_in k xs)) (eq-eqb k k refl)

pub least_else : (k j w : ℕ) (xs : List (ℕ × ℕ)) → j ≢ k → least_in j ((k, w) ∷ xs) ≡ least_in j xs
least_else k j w xs ne = ap (λ b. cond b (min w (least_in j xs)) (least_in j xs)) (ne_eqb k j (λ e. ne (sym e)))

pub least_falls : (k j w : ℕ) (xs : List (ℕ × ℕ)) → least_in j ((k, w) ∷ xs) ≤ least_in j xs
least_falls k j w xs = dite (ℕ_discrete j k) (λ e. let h =
    subst (λ (i : ℕ). least_in i ((k, w) ∷ xs) ≡ min w (least_in i xs)) (sym e) (least_here k w xs) in
    omega arith) (λ ne. let h = least_else k j w xs ne in omega arith)

-- no word seen is below r
pub least_bound : (k r : ℕ) (xs : List (ℕ × ℕ)) → ((w : ℕ) → Has xs (k, w) → r ≤ w) → r ≤ nothing_yet
    → r ≤ least_in k xs
least_bound k r [] all small = small
least_bound k r (x ∷ xs) all small = let rest = least_bound k r xs (λ w h. all w (inr h)) small in
    dite (ℕ_discrete x.0 k)
    (λ e. let h = ap (λ b. cond b (min x.1 (least_in k xs)) (least_in k xs)) (eq-eqb x.0 k e) in
    let here = all x.1 (inl (λ i. (e i, x.1))) in omega arith)
    (λ ne. let h = ap (λ b. cond b (min x.1 (least_in k xs)) (least_in k xs)) (ne_eqb x.0 k ne) in omega arith)

-- no word is above that of an empty band
pub least_small : (k : ℕ) (xs : List (ℕ × ℕ)) → least_in k xs ≤ nothing_yet
least_small k [] = omega arith
least_small k (x ∷ xs) = let rest = least_small k xs in dite (ℕ_discrete x.0 k)
    (λ e. let h = ap (λ b. cond b (min x.1 (least_in k xs)) (least_in k xs)) (eq-eqb x.0 k e) in omega arith)
    (λ ne. let h = ap (λ b. cond b (min x.1 (least_in k xs)) (least_in k xs)) (ne_eqb x.0 k ne) in omega arith)

-- the least of two lists' words is the smaller of their least words
pub least_of_both : (k : ℕ) (xs ys : List (ℕ × ℕ)) → least_in k (xs ++ ys) ≡ min (least_in k xs) (least_in k ys)
least_of_both k [] ys = let small = least_small k ys in omega arith
least_of_both k (x ∷ xs) ys = let rest = least_of_both k xs ys in dite (ℕ_discrete x.0 k)
    (λ e. let h = ap (λ b. cond b (min x.1 (least_in k xs)) (least_in k xs)) (eq-eqb x.0 k e) in
    let g = ap (λ b. cond b (min x.1 (least_in k (xs ++ ys))) (least_in k (xs ++ ys))) (eq-eqb x.0 k e) in
    omega arith)
    (λ ne. let h = ap (λ b. cond b (min x.1 (least_in k xs)) (least_in k xs)) (ne_eqb x.0 k ne) in
    let g = ap (λ b. cond b (min x.1 (least_in k (xs ++ ys))) (least_in k (xs ++ ys))) (ne_eqb x.0 k ne) in
    omega arith)
