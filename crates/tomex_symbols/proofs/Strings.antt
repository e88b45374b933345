-- Strings of a table, and their first bytes.
use Rattle.std.proofs.Common.{◌≡◌, ℕ, zero, suc, ◌-◌, ◌<◌, ◌≤◌, ⊎_elim, arith, refl, sym, ap}
use Rattle.std.proofs.Common.{true, false, nat_eq, min, List, [], ◌∷◌, length, take, drop}
use Rattle.std.proofs.lemmas.Bool.{cases_Bool, cases_lt}
use Rattle.std.proofs.lemmas.List.{drop_all, length-drop, take_all, take_min}
use Rattle.tomex_symbols.specs.Names.{until_zero}

-- the first bytes of a string
pub first_bytes : (m : ℕ) (bs : List ℕ) → until_zero (take m bs) ≡ take m (until_zero bs)
first_bytes zero bs = refl
first_bytes (suc m) [] = refl
first_bytes (suc m) (b ∷ bs) =
    ⊎_elim (λ (e : nat_eq b 0 ≡ true). rw e refl)
    (λ (e : nat_eq b 0 ≡ false). rw e (ap (λ (z : List ℕ). b ∷ z) (first_bytes m bs))) (cases_Bool (nat_eq b 0))

-- a part of a list, cut at the list's end
part_within : (a b e s : ℕ) (bs : List ℕ) → e ≡ min b (length bs) → s ≡ min a e → a ≤ e
    → take (e - s) (drop s bs) ≡ take (b - a) (drop a bs)
part_within a b e s bs f g l =
    let i : s ≡ a = omega arith in
    let n : length (drop a bs) ≡ length bs - a = length-drop a bs in
    let k : e - s ≡ min (b - a) (length (drop a bs)) = omega arith in
    rw (k, i) (take_min (b - a) (drop a bs))

part_beyond : (a b e s : ℕ) (bs : List ℕ) → e ≡ min b (length bs) → s ≡ min a e → e < a
    → take (e - s) (drop s bs) ≡ take (b - a) (drop a bs)
part_beyond a b e s bs f g l =
    let z : e - s ≡ 0 = omega arith in
    ⊎_elim
    (λ (m : b < a). let k : b - a ≡ 0 = omega arith in rw (z, k) refl)
    (λ (m : a ≤ b). let n : length bs ≤ a = omega arith in
    rw (z, drop_all a bs n) (sym (take_all (b - a) [] (omega arith))))
    (cases_lt b a)

pub part_is : (a b e s : ℕ) (bs : List ℕ) → e ≡ min b (length bs) → s ≡ min a e
    → take (e - s) (drop s bs) ≡ take (b - a) (drop a bs)
part_is a b e s bs f g =
    ⊎_elim (λ (l : e < a). part_beyond a b e s bs f g l) (λ (l : a ≤ e). part_within a b e s bs f g l) (cases_lt e a)

pub cut_string : (m k : ℕ) (bs ns : List ℕ) → bs ≡ ns → k ≡ min (length bs) m
    → until_zero (take k bs) ≡ take m (until_zero ns)
cut_string m k bs ns e f =
    let g : k ≡ min m (length bs) = omega arith in
    rw (g, take_min m bs, e) (first_bytes m ns)
