-- What is written, record by record.
use Rattle.std.proofs.Common.{◌≡◌, ◌∙◌, ap, append_assoc, subst, sym, ℕ, List, [], ◌∷◌, ◌++◌, ◌≤◌, length, take}
use Rattle.std.specs.List.{flat_map}
use Rattle.std.specs.Prelude.{All}
use Rattle.std.proofs.lemmas.List.{append-nil, take_all}
use Rattle.std.proofs.lemmas.List.Elements.{All-head, All-tail}

-- of a list's records, one more
pub one_put : {X : Type 0} (f : X → List ℕ) (x : X) (left rest : List X) (before after whole : List ℕ)
    → left ≡ x ∷ rest → before ++ flat_map f left ≡ whole → after ≡ before ++ f x → after ++ flat_map f rest ≡ whole
one_put {X = X} f x left rest before after whole is so_far grown =
    ap (λ (z : List ℕ). z ++ flat_map f rest) grown
    ∙ (append_assoc before (f x) (flat_map f rest)
    ∙ (ap (λ (xs : List X). before ++ flat_map f xs) (sym is) ∙ so_far))

-- and all of them
pub all_put : {X : Type 0} (f : X → List ℕ) (xs : List X) (i : ℕ) (start after : List ℕ) → length xs ≤ i
    → after ≡ start ++ flat_map f (take i xs) → after ≡ start ++ flat_map f xs
all_put {X = X} f xs i start after past so_far =
    so_far ∙ ap (λ (ys : List X). start ++ flat_map f ys) (take_all i xs past)

-- of the list's items the first one, with what holds of all
pub first_of : {X : Type 0} (P : X → Type 0) (x : X) (left rest : List X) → left ≡ x ∷ rest → All P left → P x
first_of {X = X} P x left rest is all = All-head P x rest (subst (λ (xs : List X). All P xs) is all)

-- one more record, if something holds of all items to come
pub next_put : {X : Type 0} (f : X → List ℕ) (P : X → Type 0) {x : X} {left rest : List X} (before : List ℕ)
    {after whole : List ℕ} → left ≡ x ∷ rest → All P left → before ++ flat_map f left ≡ whole → after ≡ before ++ f x
    → All P rest × (after ++ flat_map f rest ≡ whole)
next_put {X = X} f P {x = x} {left = left} {rest = rest} before {after = after} {whole = whole} is all so_far put = (
  All-tail P x rest (subst (λ (xs : List X). All P xs) is all),
  one_put f x left rest before after whole is so_far put,
)

-- and after the last one
pub last_put : {X : Type 0} (f : X → List ℕ) (left : List X) (before whole : List ℕ) → left ≡ []
    → before ++ flat_map f left ≡ whole → before ≡ whole
last_put {X = X} f left before whole none all =
    sym (append-nil before) ∙ (ap (λ (xs : List X). before ++ flat_map f xs) (sym none) ∙ all)
