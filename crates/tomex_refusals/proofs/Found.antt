-- The first refusal that is in a text, and the lines of all, one turn later.
use Rattle.std.proofs.Common.{◌≡◌, ◌∙◌, ap, add-one, append_assoc, arith, refl, subst, sym, ℕ, zero, suc}
use Rattle.std.proofs.Common.{◌+◌, ◌<◌, ◌≤◌}
use Rattle.std.proofs.Common.{List, [], ◌∷◌, ◌++◌, drop, get_or, length, Option, Some, None, inl, inr}
use Rattle.std.specs.List.{Contains, flat_map}
use Rattle.std.proofs.lemmas.List.{append-nil, drop_all}
use Rattle.tomex_refusals.specs.Refusals.{AreWith, HasPart, IsFirstIn, IsIn}
use Rattle.tomex_refusals.specs.declared.refusal.Refusal.{Refusal}

-- the item at a place, and those after it
next_item : {X : Type 0} (xs : List X) (i : ℕ) (x d : X) → i < length xs → x ≡ get_or xs i d
    → drop i xs ≡ x ∷ drop (suc i) xs
next_item [] i x d within is = absurd (omega (arith, within))
next_item (y ∷ ys) zero x d within is = ap (λ z. z ∷ ys) (sym is)
next_item (y ∷ ys) (suc i) x d within is = next_item ys i x d (omega (arith, within)) is

-- the first in the rest is the first of all
abbrev pub IsFirstFrom : List ℕ → List Refusal → ℕ → Type 0
IsFirstFrom text refusals i =
    (found : Option Refusal) → IsFirstIn text (drop i refusals) found → IsFirstIn text refusals found

pub at_first : (text : List ℕ) (refusals : List Refusal) → IsFirstFrom text refusals 0
at_first text refusals found first = first

pub one_is_in : (text : List ℕ) (refusals : List Refusal) (i : ℕ) (r d : Refusal) → i < length refusals
    → r ≡ get_or refusals i d → IsIn text r → IsFirstFrom text refusals i → IsFirstIn text refusals (Some r)
unfolding IsFirstIn
one_is_in text refusals i r d within is has so_far =
    so_far (Some r) (rw (next_item refusals i r d within is) (inl (has, refl)))

pub one_is_not : (text : List ℕ) (refusals : List Refusal) (i : ℕ) (r d : Refusal) → i < length refusals
    → r ≡ get_or refusals i d → (IsIn text r → ⊥) → IsFirstFrom text refusals i → IsFirstFrom text refusals (i + 1)
unfolding IsFirstIn
one_is_not text refusals i r d within is has_not so_far found first =
    let rest = rw add-one at first in
    so_far found (rw (next_item refusals i r d within is) (inr (has_not, rest)))

pub none_is_in : (text : List ℕ) (refusals : List Refusal) (i : ℕ) → length refusals ≤ i
    → IsFirstFrom text refusals i → IsFirstIn text refusals None
unfolding IsFirstIn
none_is_in text refusals i past so_far = so_far None (rw (drop_all i refusals past) refl)

-- the line of one more item
pub line_more : {X : Type 0} (f : X → List ℕ) (xs : List X) (i : ℕ) {x : X} (d : X) (before : List ℕ)
    {after whole : List ℕ} → i < length xs → x ≡ get_or xs i d → after ≡ before ++ f x
    → before ++ flat_map f (drop i xs) ≡ whole → after ++ flat_map f (drop (i + 1) xs) ≡ whole
line_more f xs i {x} d before within is grown so_far =
    rw (add-one, grown) (append_assoc before (f x) (flat_map f (drop (suc i) xs))
    ∙ (ap (λ ys. before ++ flat_map f ys) (sym (next_item xs i x d within is)) ∙ so_far))

-- and of all items
pub all_lines : {X : Type 0} (f : X → List ℕ) (xs : List X) (i : ℕ) (text whole : List ℕ) → length xs ≤ i
    → text ++ flat_map f (drop i xs) ≡ whole → text ≡ whole
all_lines f xs i text whole past so_far =
    sym (append-nil text) ∙ (ap (λ ys. text ++ flat_map f ys) (sym (drop_all i xs past)) ∙ so_far)

-- which refusals have a part: those so far, and those of the rest

-- those so far with those of the rest are those of all
abbrev pub AreSoFar : List ℕ → List Refusal → ℕ → List Refusal → Type 0
AreSoFar words refusals i before =
    (rest : List Refusal) → AreWith words (drop i refusals) rest → AreWith words refusals (before ++ rest)

pub none_so_far : (words : List ℕ) (refusals : List Refusal) → AreSoFar words refusals 0 []
none_so_far words refusals rest are = are

pub one_with : (words : List ℕ) (refusals : List Refusal) (i : ℕ) (r d : Refusal) (before : List Refusal)
    → i < length refusals → r ≡ get_or refusals i d → HasPart words r → AreSoFar words refusals i before
    → AreSoFar words refusals (i + 1) (before ++ r ∷ [])
unfolding AreWith
one_with words refusals i r d before within is has so_far rest are =
    let rest_are = rw add-one at are in
    rw (append_assoc before (r ∷ []) rest) (so_far (r ∷ rest)
    (rw (next_item refusals i r d within is) (inl (has, (rest, rest_are, refl)))))

pub one_without : (words : List ℕ) (refusals : List Refusal) (i : ℕ) (r d : Refusal) (before : List Refusal)
    → i < length refusals → r ≡ get_or refusals i d → (HasPart words r → ⊥) → AreSoFar words refusals i before
    → AreSoFar words refusals (i + 1) before
unfolding AreWith
one_without words refusals i r d before within is has_not so_far rest are =
    let rest_are = rw add-one at are in
    so_far rest (rw (next_item refusals i r d within is) (inr (has_not, rest_are)))

pub all_with : (words : List ℕ) (refusals : List Refusal) (i : ℕ) (before : List Refusal) → length refusals ≤ i
    → AreSoFar words refusals i before → AreWith words refusals before
unfolding AreWith
all_with words refusals i before past so_far =
    subst (AreWith words refusals) (append-nil before) (so_far [] (rw (drop_all i refusals past) refl))

-- the item at a place is one of all
pub contains_at : (refusals : List Refusal) (i : ℕ) (r d : Refusal) → i < length refusals → r ≡ get_or refusals i d
    → Contains refusals r
contains_at [] i r d within is = absurd (omega (arith, within))
contains_at (q ∷ refusals) zero r d within is = (0, omega arith, sym is)
contains_at (q ∷ refusals) (suc i) r d within is =
    let w = contains_at refusals i r d (omega (arith, within)) is in
    let l : w.0 < length refusals = w.1 in
    (suc w.0, omega arith, w.2)
