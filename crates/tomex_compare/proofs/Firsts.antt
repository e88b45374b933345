-- The values of a list that stand for all of its values, each by the first one: how they are found, and that each value
-- of the list is like one of them.
use Rattle.std.proofs.Common.{◌≡◌, ◌∙◌, inl, inr, ap, refl, sym, arith, ℕ, ◌+◌, Bool, true, false, not}
use Rattle.std.proofs.Common.{◌||◌}
use Rattle.std.proofs.Common.{cond, List, [], ◌∷◌, ◌++◌, append_assoc}
use Rattle.std.specs.Prelude.{sum_by}
use Rattle.std.specs.List.{filter, list_any}
use Rattle.std.proofs.lemmas.Bool.{cases_Bool}
use Rattle.std.proofs.lemmas.List.Folds.{list_any-append}
use Rattle.std.proofs.lemmas.List.Sums.{sum_by-cons}
use Rattle.tomex_compare.proofs.Sorting.{Has}

-- likeness of values
pub record IsLikeness {C : Type 0} (same : C → C → Bool) : Type 0 where
  pub own : (a : C) → same a a ≡ true
  pub chain : (a b c : C) → same a b ≡ true → same b c ≡ true → same a c ≡ true
  pub turned : (a b : C) → same a b ≡ true → same b a ≡ true

module _ {C : Type 0} (same : C → C → Bool) (like : IsLikeness same) where
  -- one of the values is like this one
  abbrev pub has : List C → C → Bool
  has found c = list_any (λ e. same e c) found

  abbrev pub left : List C → List C → List C
  left found rest = filter (λ c. not (has found c)) rest

  has_chain : (found : List C) (c d : C) → same c d ≡ true → has found c ≡ true → has found d ≡ true
  has_chain [] c d e h = h
  has_chain (f ∷ found) c d e h = elim (cases_Bool (same f c)) [
    | inl i ↦ rw (like.chain f c d i e) refl
    | inr i ↦ let rest = has_chain found c d e (rw i at h) in rw rest (or_true (same f d))
  ]
    where
      or_true : (b : Bool) → (b || true) ≡ true
      or_true true = refl
      or_true false = refl

  skip : (found : List C) (c : C) → has found c ≡ true → (ys : List C)
      → left found (filter (λ y. not (same c y)) ys) ≡ left found ys
  skip found c h [] = refl
  skip found c h (y ∷ ys) = elim (cases_Bool (same c y)) [
    | inl e ↦ rw (e, has_chain found c y e h) (skip found c h ys)
    | inr e ↦ rw e (ap (λ (zs : List C). cond (not (has found y)) (y ∷ zs) zs) (skip found c h ys))
  ]

  keep : (found : List C) (c : C) (ys : List C)
      → left found (filter (λ y. not (same c y)) ys) ≡ left (found ++ c ∷ []) ys
  keep found c [] = refl
  keep found c (y ∷ ys) = go (has found y) (same c y) (has (found ++ c ∷ []) y) refl
      (list_any-append (λ e. same e y) found (c ∷ [])) (keep found c ys)
    where
      go : (h s g : Bool) → has found y ≡ h → g ≡ (h || (s || false))
          → left found (filter (λ z. not (same c z)) ys) ≡ left (found ++ c ∷ []) ys
          → filter (λ z. not (has found z)) (cond (not s) (y ∷ filter (λ z. not (same c z)) ys)
          (filter (λ z. not (same c z)) ys))
          ≡ cond (not g) (y ∷ left (found ++ c ∷ []) ys) (left (found ++ c ∷ []) ys)
      go true true g e f rest = rw f rest
      go true false g e f rest = rw (f, e) rest
      go false true g e f rest = rw f rest
      go false false g e f rest = rw (f, e) (ap (λ (zs : List C). y ∷ zs) rest)

  -- a value of which one like it is found already
  pub seen : (found : List C) (c : C) (ys before : List C) → has found c ≡ true
      → before ++ left found (c ∷ filter (λ y. not (same c y)) ys) ≡ before ++ left found ys
  seen found c ys before h = ap (λ (zs : List C). before ++ zs) (rw h (skip found c h ys))

  -- a new one
  pub unseen : (found : List C) (c : C) (ys : List C) → has found c ≡ false
      → found ++ left found (c ∷ filter (λ y. not (same c y)) ys) ≡ (found ++ c ∷ []) ++ left (found ++ c ∷ []) ys
  unseen found c ys h =
      ap (λ (zs : List C). found ++ zs) (rw h (ap (λ (zs : List C). c ∷ zs) (keep found c ys)))
      ∙ sym (append_assoc found (c ∷ []) (left (found ++ c ∷ []) ys))

  pub nothing_found : (ys : List C) → left [] ys ≡ ys
  nothing_found [] = refl
  nothing_found (y ∷ ys) = ap (λ (zs : List C). y ∷ zs) (nothing_found ys)

  -- of the first values one is like each value of the list, and no other

  abbrev pub one_if : Bool → ℕ
  one_if b = cond b 1 0

  abbrev likes : C → List C → ℕ
  likes d ys = sum_by (λ c. one_if (same c d)) ys

  others : (x d : C) → same x d ≡ true → (ys : List C) → likes d (filter (λ y. not (same x y)) ys) ≡ 0
  others x d e [] = refl
  others x d e (y ∷ ys) = elim (cases_Bool (same x y)) [
    | inl i ↦ rw i (others x d e ys)
    | inr i ↦ elim (cases_Bool (same y d)) [
      | inl j ↦ absurd (both i (like.chain x d y e (like.turned y d j)))
      | inr j ↦ rw i (sum_by-cons (λ c. one_if (same c d)) y (filter (λ z. not (same x z)) ys)
          ∙ rw j (let none = others x d e ys in omega (arith, none)))
    ]
  ]
    where
      both : {b : Bool} → b ≡ false → b ≡ true → ⊥
      both e f = cc

  rest : (x d : C) → same x d ≡ false → (ys : List C) → likes d (filter (λ y. not (same x y)) ys) ≡ likes d ys
  rest x d e [] = refl
  rest x d e (y ∷ ys) = elim (cases_Bool (same x y)) [
    | inl i ↦ elim (cases_Bool (same y d)) [
      | inl j ↦ absurd (both e (like.chain x y d i j))
      | inr j ↦ rw i (rest x d e ys ∙ sym (sum_by-cons (λ c. one_if (same c d)) y ys ∙ rw j (omega arith)))
    ]
    | inr i ↦ rw i (sum_by-cons (λ c. one_if (same c d)) y (filter (λ z. not (same x z)) ys)
        ∙ (ap (λ (n : ℕ). one_if (same y d) + n) (rest x d e ys)
        ∙ sym (sum_by-cons (λ c. one_if (same c d)) y ys)))
  ]
    where
      both : {b : Bool} → b ≡ false → b ≡ true → ⊥
      both e f = cc

  module _ (firsts : List C → List C) (none : firsts [] ≡ [])
      (grow : (x : C) (xs : List C) → firsts (x ∷ xs) ≡ x ∷ filter (λ y. not (same x y)) (firsts xs)) where
    pub one_like : (xs : List C) (d : C) → Has xs d → likes d (firsts xs) ≡ 1
    one_like [] d h = absurd h
    one_like (x ∷ xs) d h = elim (cases_Bool (same x d)) [
      | inl e ↦ rw (
        grow x xs,
        sum_by-cons (λ c. one_if (same c d)) x (filter (λ y. not (same x y)) (firsts xs)),
        e,
        others x d e (firsts xs),
      ) refl
      | inr e ↦ rw (
        grow x xs,
        sum_by-cons (λ c. one_if (same c d)) x (filter (λ y. not (same x y)) (firsts xs)),
        e,
        rest x d e (firsts xs),
      ) (let once = one_like xs d (in_rest e h) in omega (arith, once))
    ]
      where
        in_rest : same x d ≡ false → Has (x ∷ xs) d → Has xs d
        in_rest e (inl i) = absurd (both e (ap (same x) (sym i) ∙ like.own x))
          where
            both : {b : Bool} → b ≡ false → b ≡ true → ⊥
            both p q = cc
        in_rest e (inr t) = t
