-- The values that no item before has, item by item.
use Rattle.std.proofs.Common.{◌≡◌, ◌∙◌, ap, refl, sym, add-one, ℕ, suc, ◌+◌, ◌<◌, Bool, true, false, cond}
use Rattle.std.proofs.Common.{not, ◌&&◌, ◌||◌, List, [], ◌∷◌, ◌++◌, drop, drop-cons, get_or, length, take}
use Rattle.std.specs.List.{filter, list_any}
use Rattle.std.proofs.lemmas.List.{take_more}
use Rattle.std.proofs.lemmas.List.Elements.{filter_agree}
use Rattle.std.proofs.lemmas.List.Folds.{list_any-append}

-- the items that pass two tests

filter_case : {X : Type 0} (p : X → Bool) (a : Bool) (x : X) (some all : List X) → filter p some ≡ all
    → filter p (cond a (x ∷ some) some) ≡ cond (a && p x) (x ∷ all) all
filter_case p true x some all e = ap (λ ys. cond (p x) (x ∷ ys) ys) e
filter_case p false x some all e = e

filter-filter : {X : Type 0} (p q : X → Bool) (xs : List X) → filter p (filter q xs) ≡ filter (λ x. q x && p x) xs
filter-filter p q [] = refl
filter-filter p q (x ∷ xs) =
    filter_case p (q x) x (filter q xs) (filter (λ y. q y && p y) xs) (filter-filter p q xs)

-- all items pass if none came before
pub filter_every : {X : Type 0} (xs : List X) → filter (λ x. not false) xs ≡ xs
filter_every [] = refl
filter_every (x ∷ xs) = ap (λ ys. x ∷ ys) (filter_every xs)

one_more : (before same : Bool) → (not same && not before) ≡ not (before || (same || false))
one_more true true = refl
one_more true false = refl
one_more false true = refl
one_more false false = refl

turned : {X : Type 0} (b : Bool) (x : X) (xs : List X) → cond (not b) (x ∷ xs) xs ≡ cond b xs (x ∷ xs)
turned true x xs = refl
turned false x xs = refl

-- the values of a list's items, of which each is kept once
module _ {A B : Type 0} (same : B → B → Bool) (value : A → B) (firsts : List A → List B)
    (grow : (x : A) (xs : List A) → firsts (x ∷ xs) ≡ value x ∷ filter (λ y. not (same (value x) y)) (firsts xs)) where
  -- one of these items has the value
  abbrev has : List A → B → Bool
  has items y = list_any (λ x. same (value x) y) items

  -- the values of the items to come that none of those before has
  abbrev new : List A → List A → List B
  new before rest = filter (λ y. not (has before y)) (firsts rest)

  -- an item's value is new, or an item before has it
  next : (before rest : List A) (x : A) → new before (x ∷ rest)
      ≡ cond (has before (value x)) (new (before ++ x ∷ []) rest) (value x ∷ new (before ++ x ∷ []) rest)
  next before rest x =
      let old : B → Bool = λ y. not (has before y) in
      let other : B → Bool = λ y. not (same (value x) y) in
      let fresh : B → Bool = λ y. not (has (before ++ x ∷ []) y) in
      let agree : (y : B) → (other y && old y) ≡ fresh y =
      λ y. one_more (has before y) (same (value x) y)
      ∙ ap not (sym (list_any-append (λ b. same (value b) y) before (x ∷ []))) in
      let rest_is : filter old (filter other (firsts rest)) ≡ filter fresh (firsts rest) =
      filter-filter old other (firsts rest) ∙ filter_agree (λ y. other y && old y) fresh agree (firsts rest) in
      ap (filter old) (grow x rest)
      ∙ (ap (λ (ys : List B). cond (old (value x)) (value x ∷ ys) ys) rest_is
      ∙ turned (has before (value x)) (value x) (filter fresh (firsts rest)))

  -- so it is for the next item of a list
  pub next_first : (items : List A) (k : ℕ) (x : A) → k < length items → x ≡ get_or items k x
      → new (take k items) (drop k items)
      ≡ cond (has (take k items) (value x)) (new (take (k + 1) items) (drop (k + 1) items))
      (value x ∷ new (take (k + 1) items) (drop (k + 1) items))
  next_first items k x within is =
      let more : take (k + 1) items ≡ take k items ++ x ∷ [] =
      take_more items k x within ∙ ap (λ z. take k items ++ z ∷ []) (sym is) in
      let here : drop k items ≡ x ∷ drop (k + 1) items =
      rw add-one (drop-cons items k x within ∙ ap (λ z. z ∷ drop (suc k) items) (sym is)) in
      rw (more, here) (next (take k items) (drop (k + 1) items) x)
