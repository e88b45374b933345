-- The results of a search among plateaus.
use Rattle.std.proofs.Common.{◌≡◌, ℕ, ◌-◌, ◌<◌, ◌≤◌, ◌++◌, ◌+◌, arith, ap, sym, ◌∙◌, refl, subst, Bool, true, false}
use Rattle.std.proofs.Common.{List, [], ◌∷◌, length, get_or, Option, Some, None, All, reverse, inl, inr, ⊎_elim, cond}
use Rattle.std.proofs.Common.{suc}
use Rattle.std.specs.Prelude.{nat_lt, not, option_map, slice_get, IfSome}
use Rattle.std.specs.List.{find, position, position_or_len}
use Rattle.std.proofs.lemmas.Option.{get_or_from_slice_get, slice_get-get_or, slice_get_within}
use Rattle.std.proofs.lemmas.List.Quantifiers.{position-Some}
use Rattle.std.proofs.lemmas.List.Sums.{prefix_len_passes}
use Rattle.std.proofs.lemmas.Bool.{cases_Bool, cases_lt, leb-false}
use Rattle.std.proofs.lemmas.List.{get_or-reverse, get_or-set_same, get_or_push, length_push, length-reverse}
use Rattle.std.proofs.lemmas.List.{reverse-reverse}
use Rattle.std.proofs.Math.ListN.{set, length-set}
use Rattle.std.proofs.lemmas.List.Elements.{All-cons, All-head, All-nil, All-tail}
use Rattle.tomex_rvexec.specs.declared.step.Step.{Step}
use Rattle.tomex_config.specs.Configuration.{Configuration, IsWithinLimits}
use Rattle.tomex_timing.specs.Search.{times_in, total_of}
use Rattle.tomex_plateaus.specs.declared.plateau.Plateau.{Plateau}
use Rattle.tomex_plateaus.specs.Kept.{Kept, AreKept, LiesAt, kept_with, most_plateaus}
use Rattle.tomex_plateaus.proofs.Keeping.{kept_few, kept_many}
use Rattle.tomex_plateaus.specs.Plateaus.{IsPlateauOf, fits, lies_on, numbers_of, total_known}

all_reverse : {X : Type 0} (P : X → Type 0) (xs : List X) → All P xs → All P (reverse xs)
all_reverse P xs all k d low =
    let below : k < length xs = rw length-reverse at low in
    subst P (sym (get_or-reverse xs k d below)) (all (length xs - 1 - k) d (omega arith))

-- what a search from the front finds
none_at : {X : Type 0} (p : X → Bool) (xs : List X) → position p xs ≡ None → All (λ x. p x ≡ false) xs
none_at p xs is = go (nat_lt (position_or_len p xs) (length xs)) refl is
  where
    not_true : (b : Bool) → not b ≡ true → b ≡ false
    not_true true e = absurd (cc)
    not_true false e = refl

    go : (b : Bool) → nat_lt (position_or_len p xs) (length xs) ≡ b
        → cond b (Some (position_or_len p xs)) None ≡ None → All (λ x. p x ≡ false) xs
    go true less e = absurd (cc)
    go false less e = λ k d low.
        let past : length xs < suc (position_or_len p xs) = leb-false (suc (position_or_len p xs)) (length xs) less in
        let before : k < position_or_len p xs = omega (arith, past, low) in
        not_true (p (get_or xs k d)) (prefix_len_passes (λ x. not (p x)) xs k d before)

some_at : (numbers : List ℕ) (xs : List Plateau) (k : ℕ) → position (fits numbers) xs ≡ Some k → LiesAt numbers xs k
some_at numbers [] k is = absurd (cc)
some_at numbers (x ∷ xs) k is =
    let found = position-Some (fits numbers) (x ∷ xs) k x is in
    record {
      plateau = get_or (x ∷ xs) k x;
      at = slice_get-get_or (x ∷ xs) k x found.0;
      on = found.1;
    }

pub found_at : (numbers : List ℕ) (xs : List Plateau) (o : Option ℕ) → o ≡ position (fits numbers) xs
    → IfSome o (LiesAt numbers xs)
found_at numbers xs None is = tt
found_at numbers xs (Some k) is = some_at numbers xs k (sym is)

pub nowhere : (numbers : List ℕ) (xs : List Plateau) (o : Option ℕ) → o ≡ position (fits numbers) xs → o ≡ None
    → All (λ p. fits numbers p ≡ false) xs
nowhere numbers xs o is none = none_at (fits numbers) xs (sym is ∙ none)

-- the item that is found passes, and is one of them
found_one : {X : Type 0} (P : X → Type 0) (p : X → Bool) (xs : List X) (x : X) → All P xs → find p xs ≡ Some x → P x
    × (p x ≡ true)
found_one P p [] x all is = absurd (cc)
found_one P p (y ∷ ys) x all is = elim (cases_Bool (p y)) [
  | inl holds ↦
      let same : Some y ≡ Some x = rw holds at is in
      let e : y ≡ x = cc in
      (subst P e (All-head P y ys all), subst (λ z. p z ≡ true) e holds)
  | inr fails ↦ found_one P p ys x (All-tail P y ys all) (rw fails at is)
]

-- if none is found, none passes
none_found : {X : Type 0} (p : X → Bool) (xs : List X) → find p xs ≡ None → All (λ x. p x ≡ false) xs
none_found p [] is = All-nil (λ x. p x ≡ false)
none_found p (y ∷ ys) is = elim (cases_Bool (p y)) [
  | inl holds ↦ let f : Some y ≡ None = rw holds at is in absurd (cc)
  | inr fails ↦ All-cons (λ x. p x ≡ false) y ys fails (none_found p ys (rw fails at is))
]

known_in : (config : Configuration) (steps : List Step) (found : List Plateau) (o : Option Plateau) (k : ℕ)
    (d : Plateau) → IsWithinLimits config → All (IsPlateauOf steps) found → k < length found
    → lies_on config (get_or found k d) ≡ true → find (lies_on config) (reverse found) ≡ o
    → option_map (λ p. p.total) o ≡ Some (total_of (times_in config steps))
known_in config steps found None k d good all low on at =
    let none : All (λ x. lies_on config x ≡ false) found =
    subst (All (λ x. lies_on config x ≡ false)) (reverse-reverse found)
    (all_reverse (λ x. lies_on config x ≡ false) (reverse found) (none_found (lies_on config) (reverse found) at))
    in
    let f : lies_on config (get_or found k d) ≡ false = none k d low in
    let g : true ≡ false = sym on ∙ f in
    absurd (cc)
known_in config steps found (Some p) k d good all low on at =
    let w = found_one (IsPlateauOf steps) (lies_on config) (reverse found) p (all_reverse (IsPlateauOf steps) found all)
    at in
    ap (λ (n : ℕ). Some n) (sym (w.0 config good w.1))

-- the total of a configuration on one of the plateaus is known
pub is_known : (config : Configuration) (steps : List Step) (found : List Plateau) (k : ℕ) (d : Plateau)
    → IsWithinLimits config → All (IsPlateauOf steps) found → k < length found
    → lies_on config (get_or found k d) ≡ true → total_known config found ≡ Some (total_of (times_in config steps))
is_known config steps found k d good all low on =
    known_in config steps found (find (lies_on config) (reverse found)) k d good all low on refl

-- a plateau that is kept is one of the list, so the total of each configuration on it is known
pub learnt : (config : Configuration) (k m : Kept) (p : Plateau) → IsWithinLimits config → AreKept k → AreKept m
    → lies_on config p ≡ true → m ≡ kept_with p k
    → total_known config m.found ≡ Some (total_of (times_in config m.steps))
learnt config k m p good old new on is = ⊎_elim
    (λ (low : length k.found < most_plateaus).
    let found : m.found ≡ k.found ++ p ∷ [] = ap (λ (x : Kept). x.found) (is ∙ kept_few k p low) in
    let long : length m.found ≡ length k.found + 1 = rw found (length_push k.found p) in
    let at : get_or m.found (length k.found) p ≡ p = rw found (get_or_push k.found p p (length k.found) refl) in
    is_known config m.steps m.found (length k.found) p good new.are (omega arith) (rw at on))
    (λ (many : most_plateaus ≤ length k.found).
    let found : m.found ≡ set k.found k.oldest p = ap (λ (x : Kept). x.found) (is ∙ kept_many k p many) in
    let place : k.oldest < most_plateaus = old.place in
    let low : k.oldest < length k.found = omega arith in
    let long : length m.found ≡ length k.found = rw found (length-set k.found k.oldest p) in
    let at : get_or m.found k.oldest p ≡ p = rw found (get_or-set_same k.found k.oldest p p low) in
    is_known config m.steps m.found k.oldest p good new.are (omega arith) (rw at on))
    (cases_lt (length k.found) most_plateaus)

-- the total at a place on which a configuration lies is known, and is the program's
pub known_at : (config : Configuration) (k : Kept) (place : ℕ) (p : Plateau) → IsWithinLimits config → AreKept k
    → LiesAt (numbers_of config) k.found place → slice_get k.found place ≡ Some p
    → (Some p.total ≡ total_known config k.found) × (total_of (times_in config k.steps) ≡ p.total)
known_at config k place p good kept lies at =
    let same : Some p ≡ Some lies.plateau = sym at ∙ lies.at in
    let e : p ≡ lies.plateau = cc in
    let on : lies_on config p ≡ true = rw e lies.on in
    let low : place < length k.found = slice_get_within k.found place p at in
    let here : get_or k.found place p ≡ p = get_or_from_slice_get k.found place p p at in
    let is : IsPlateauOf k.steps p = subst (IsPlateauOf k.steps) here (kept.are place p low) in
    let total : total_of (times_in config k.steps) ≡ p.total = is config good on in
    let known = is_known config k.steps k.found place p good kept.are low (rw here on) in
    (ap (λ (n : ℕ). Some n) (sym total) ∙ sym known, total)

-- nothing is known if it lies on none
pub unknown : (config : Configuration) (found : List Plateau) → All (λ p. lies_on config p ≡ false) found
    → total_known config found ≡ None
unknown config found none =
    ap (option_map (λ (p : Plateau). p.total))
    (none_in (reverse found) (all_reverse (λ p. lies_on config p ≡ false) found none))
  where
    none_in : (xs : List Plateau) → All (λ p. lies_on config p ≡ false) xs → find (lies_on config) xs ≡ None
    none_in [] all = refl
    none_in (x ∷ xs) all =
        let first : lies_on config x ≡ false = All-head (λ p. lies_on config p ≡ false) x xs all in
        rw first (none_in xs (All-tail (λ p. lies_on config p ≡ false) x xs all))
