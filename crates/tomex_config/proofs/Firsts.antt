-- The first of all configurations that are alike, found one after another.
use Rattle.std.proofs.Common.{◌≡◌, ℕ, ◌<◌, ◌≤◌, ◌+◌, arith, ap, sym, refl, ◌∙◌, List, [], ◌∷◌, ◌++◌, Bool, true}
use Rattle.std.proofs.Common.{false, inl, inr, not, ◌||◌, ◌&&◌, append_assoc, drop, get_or, length}
use Rattle.std.specs.List.{filter, list_any}
use Rattle.std.proofs.lemmas.Bool.{cases_Bool}
use Rattle.std.proofs.lemmas.Bool.Decides.{nat_tests}
use Rattle.std.proofs.lemmas.List.{append-nil, at_drop_all, at_drop_more}
use Rattle.tomex_config.specs.Configuration.{Configuration}
use Rattle.tomex_config.specs.declared.part.Part.TheVariants.{Stations, Units, Buses, Width}
use Rattle.tomex_config.specs.Parts.{is_like}
use Rattle.tomex_config.specs.Parts.{firsts}
use Rattle.tomex_config.specs.declared.likeness.Likeness.{Likeness}
use Rattle.tomex_config.specs.declared.likeness.Likeness.TheVariants.{Entry, Latency}

-- filters

pub everything : {X : Type 0} (p : X → Bool) (xs : List X) → ((x : X) → p x ≡ true) → filter p xs ≡ xs
everything p [] all = refl
everything p (x ∷ xs) all = rw (all x, everything p xs all) refl

-- one that keeps less keeps as much of what the other keeps
within_other : {X : Type 0} (p q : X → Bool) (xs : List X) → ((x : X) → q x ≡ false → p x ≡ false)
    → filter p (filter q xs) ≡ filter p xs
within_other p q [] less = refl
within_other p q (x ∷ xs) less = elim (cases_Bool (q x)) [
  | inl e ↦ rw (e, within_other p q xs less) refl
  | inr e ↦ rw (e, less x e) (within_other p q xs less)
]

both_filters : {X : Type 0} (p q r : X → Bool) (xs : List X) → ((x : X) → r x ≡ (p x && q x))
    → filter p (filter q xs) ≡ filter r xs
both_filters p q r [] same = refl
both_filters p q r (x ∷ xs) same = elim (cases_Bool (q x)) [
  | inl e ↦ elim (cases_Bool (p x)) [
    | inl f ↦ rw (e, f, same x, e, f, both_filters p q r xs same) refl
    | inr f ↦ rw (e, f, same x, f) (both_filters p q r xs same)
  ]
  | inr e ↦ elim (cases_Bool (p x)) [
    | inl f ↦ rw (e, same x, f, e) (both_filters p q r xs same)
    | inr f ↦ rw (e, same x, f) (both_filters p q r xs same)
  ]
]

any_push : {X : Type 0} (p : X → Bool) (xs : List X) (x : X) → list_any p (xs ++ x ∷ []) ≡ (list_any p xs || p x)
any_push p [] x = elim (cases_Bool (p x)) [ inl e ↦ rw e refl | inr e ↦ rw e refl ]
any_push p (y ∷ ys) x = elim (cases_Bool (p y)) [ inl e ↦ rw e refl | inr e ↦ rw e (any_push p ys x) ]

neither : (a b : Bool) → not (a || b) ≡ (not a && not b)
neither true b = refl
neither false b = refl

-- if one item passes a test, and what passes it passes another, one passes that
any_too : {X : Type 0} (p q : X → Bool) (xs : List X) → ((x : X) → p x ≡ true → q x ≡ true) → list_any p xs ≡ true
    → list_any q xs ≡ true
any_too p q [] too some = some
any_too p q (x ∷ xs) too some = elim (cases_Bool (p x)) [
  | inl e ↦ rw (too x e) refl
  | inr e ↦
      let rest : list_any q xs ≡ true = any_too p q xs too (rw e at some) in
      elim (cases_Bool (q x)) [ inl f ↦ rw f refl | inr f ↦ rw f rest ]
]

-- what is like one that is like another is like that one

like_too : (l : Likeness) (a b c : Configuration) → is_like l a b ≡ true → is_like l b c ≡ true → is_like l a c ≡ true
like_too (Entry (Stations pool)) a b c e f = grind (arith, nat_tests)
like_too (Entry (Units unit)) a b c e f = grind (arith, nat_tests)
like_too (Entry Buses) a b c e f = grind (arith, nat_tests)
like_too (Entry Width) a b c e f = grind (arith, nat_tests)
like_too (Latency (Stations pool)) a b c e f = grind (arith, nat_tests)
like_too (Latency (Units unit)) a b c e f = grind (arith, nat_tests)
like_too (Latency Buses) a b c e f = grind (arith, nat_tests)
like_too (Latency Width) a b c e f = grind (arith, nat_tests)

-- the firsts that come, after those that did

abbrev pub is_new : Likeness → List Configuration → Configuration → Bool
is_new l before d = not (list_any (λ c. is_like l c d) before)

abbrev pub coming : Likeness → List Configuration → List Configuration → List Configuration
coming l before rows = filter (is_new l before) (firsts (is_like l) rows)

pub all_coming : (l : Likeness) (rows before : List Configuration) → before ≡ []
    → before ++ coming l before rows ≡ firsts (is_like l) rows
all_coming l rows before none = rw none (everything (is_new l []) (firsts (is_like l) rows) (λ x. refl))

came : (l : Likeness) (before rows : List Configuration) (x : Configuration)
    → list_any (λ c. is_like l c x) before ≡ true → coming l before (x ∷ rows) ≡ coming l before rows
came l before rows x is =
    rw is (within_other (is_new l before) (λ d. not (is_like l x d)) (firsts (is_like l) rows) (λ d e.
    let own : is_like l x d ≡ true = grind (arith, nat_tests) in
    let too : list_any (λ c. is_like l c d) before ≡ true =
    any_too (λ c. is_like l c x) (λ c. is_like l c d) before (λ c f. like_too l c x d f own) is in
    ap not too))

comes : (l : Likeness) (before rows : List Configuration) (x : Configuration)
    → list_any (λ c. is_like l c x) before ≡ false
    → (before ++ x ∷ []) ++ coming l (before ++ x ∷ []) rows ≡ before ++ coming l before (x ∷ rows)
comes l before rows x none =
    append_assoc before (x ∷ []) (coming l (before ++ x ∷ []) rows)
    ∙ ap (λ (xs : List Configuration). before ++ xs)
    (rw none (ap (λ (xs : List Configuration). x ∷ xs)
    (sym (both_filters (is_new l before) (λ d. not (is_like l x d)) (is_new l (before ++ x ∷ []))
    (firsts (is_like l) rows)
    (λ d. ap not (any_push (λ c. is_like l c d) before x)
    ∙ neither (list_any (λ c. is_like l c d) before) (is_like l x d))))))

-- one more row, that came before or didn't

pub one_came : (l : Likeness) (before after rows : List Configuration) (k : ℕ) (x : Configuration) → k < length rows
    → x ≡ get_or rows k x → list_any (λ c. is_like l c x) before ≡ true → after ≡ before
    → before ++ coming l before (drop k rows) ≡ firsts (is_like l) rows
    → after ++ coming l after (drop (k + 1) rows) ≡ firsts (is_like l) rows
one_came l before after rows k x low at is same so_far =
    ap (λ (xs : List Configuration). xs ++ coming l xs (drop (k + 1) rows)) same
    ∙ (ap (λ (xs : List Configuration). before ++ xs)
    (sym (at_drop_more (coming l before) rows k x low
    ∙ (ap (λ (c : Configuration). coming l before (c ∷ drop (k + 1) rows)) (sym at)
    ∙ came l before (drop (k + 1) rows) x is)))
    ∙ so_far)

pub one_comes : (l : Likeness) (before after rows : List Configuration) (k : ℕ) (x : Configuration) → k < length rows
    → x ≡ get_or rows k x → list_any (λ c. is_like l c x) before ≡ false → after ≡ before ++ x ∷ []
    → before ++ coming l before (drop k rows) ≡ firsts (is_like l) rows
    → after ++ coming l after (drop (k + 1) rows) ≡ firsts (is_like l) rows
one_comes l before after rows k x low at none is so_far =
    rw is (comes l before (drop (k + 1) rows) x none
    ∙ (ap (λ (xs : List Configuration). before ++ xs)
    (sym (at_drop_more (coming l before) rows k x low
    ∙ ap (λ (c : Configuration). coming l before (c ∷ drop (k + 1) rows)) (sym at)))
    ∙ so_far))

pub all_came : (l : Likeness) (before rows : List Configuration) (k : ℕ) → length rows ≤ k
    → before ++ coming l before (drop k rows) ≡ firsts (is_like l) rows → before ≡ firsts (is_like l) rows
all_came l before rows k past so_far =
    sym (append-nil before)
    ∙ (ap (λ (xs : List Configuration). before ++ xs) (sym (at_drop_all (coming l before) rows k past)) ∙ so_far)
