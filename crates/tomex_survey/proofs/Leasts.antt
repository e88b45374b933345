-- The least of some numbers, found one after another.
use Rattle.std.proofs.Common.{◌≡◌, ℕ, ◌≤◌, arith, ap, sym, refl, ◌∙◌, List, [], ◌∷◌, ◌++◌, map, Bool, true}
use Rattle.std.proofs.Common.{inl, inr, cond, drop, length, Option, Some, None}
use Rattle.std.specs.Prelude.{min}
use Rattle.std.specs.List.{filter}
use Rattle.std.proofs.lemmas.Bool.{cases_Bool}
use Rattle.std.proofs.lemmas.Bool.Decides.{nat_tests}
use Rattle.std.proofs.lemmas.List.{drop_all}
use Rattle.tomex_survey.specs.Extremes.{least, lesser}

-- the least of those that pass, and of what was least before
abbrev pub least_by : {X : Type 0} → (X → Bool) → (X → ℕ) → Option ℕ → List X → Option ℕ
least_by p f o [] = o
least_by p f o (x ∷ xs) = cond (p x) (least_by p f (Some (lesser (f x) o)) xs) (least_by p f o xs)

abbrev pub lesser_of : Option ℕ → Option ℕ → Option ℕ
lesser_of None b = b
lesser_of (Some a) b = Some (lesser a b)

min_comm : (a b : ℕ) → min a b ≡ min b a
min_comm a b = grind (arith, nat_tests)

min_assoc : (a b c : ℕ) → min b (min a c) ≡ min (min a b) c
min_assoc a b c = grind (arith, nat_tests)

min_nested : (a b c : ℕ) → min (min a b) c ≡ min a (min b c)
min_nested a b c = grind (arith, nat_tests)

lesser_next : (a : ℕ) (o b : Option ℕ) → lesser_of (Some (lesser a o)) b ≡ lesser_of o (Some (lesser a b))
lesser_next a None b = refl
lesser_next a (Some o) None = ap (λ (n : ℕ). Some n) (min_comm a o)
lesser_next a (Some o) (Some b) = ap (λ (n : ℕ). Some n) (sym (min_assoc a o b))

pub after : {X : Type 0} (p : X → Bool) (f : X → ℕ) (o : Option ℕ) (xs : List X)
    → least_by p f o xs ≡ lesser_of o (least (map f (filter p xs)))
after p f None [] = refl
after p f (Some o) [] = refl
after p f o (x ∷ xs) = elim (cases_Bool (p x)) [
  | inl e ↦ rw e (after p f (Some (lesser (f x) o)) xs ∙ lesser_next (f x) o (least (map f (filter p xs))))
  | inr e ↦ rw e (after p f o xs)
]

pub least_by_is : {X : Type 0} (p : X → Bool) (f : X → ℕ) (xs : List X)
    → least_by p f None xs ≡ least (map f (filter p xs))
least_by_is p f xs = after p f None xs

lesser_nested : (a : ℕ) (o b : Option ℕ) → lesser_of (Some (lesser a o)) b ≡ Some (lesser a (lesser_of o b))
lesser_nested a None None = refl
lesser_nested a None (Some b) = refl
lesser_nested a (Some o) None = refl
lesser_nested a (Some o) (Some b) = ap (λ (n : ℕ). Some n) (min_nested a o b)

pub least_append : (ns ms : List ℕ) → least (ns ++ ms) ≡ lesser_of (least ns) (least ms)
least_append [] ms = refl
least_append (n ∷ ns) ms = ap (λ (o : Option ℕ). Some (lesser n o)) (least_append ns ms)
    ∙ sym (lesser_nested n (least ns) (least ms))

-- of all numbers
pub least_of_all : {X : Type 0} (f : X → ℕ) (xs : List X) → least_by (λ x. true) f None xs ≡ least (map f xs)
least_of_all f xs = least_by_is (λ x. true) f xs ∙ ap (λ ys. least (map f ys)) (everything xs)
  where
    everything : {X : Type 0} (xs : List X) → filter (λ x. true) xs ≡ xs
    everything [] = refl
    everything (x ∷ xs) = rw (everything xs) refl

-- after the last of them
pub last_least : {X : Type 0} (p : X → Bool) (f : X → ℕ) (o : Option ℕ) (xs : List X) (k : ℕ) → length xs ≤ k
    → o ≡ least_by p f o (drop k xs)
last_least p f o xs k past = rw (drop_all k xs past) refl
