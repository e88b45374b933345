-- The number of entries of a listing in issue order that pass a test.
use Rattle.std.proofs.Common.{ℕ, ◌+◌, Bool, true, false, ◌≡◌, ◌<◌, ◌∙◌, arith, inl, inr, ap, refl, sym, List, [], ◌∷◌}
use Rattle.std.proofs.Common.{slice_index, length}
use Rattle.std.specs.Prelude.{◌==◌, ◌≢◌, ◌&&◌, not, count_by}
use Rattle.std.proofs.lemmas.Bool.{cases_Bool, both_ways, eq-eqb, eqb-true, and_parts, or_right}
use Rattle.std.proofs.lemmas.List.Sums.{sum_by-cons}
use Rattle.tomex_bus.specs.Sets.{count_below}
use Rattle.tomex_bus.proofs.Counting.{count_none, count_one}
use Rattle.tomex_bus.specs.Picks.{Rises, is_listed}

count_on : (p : ℕ → Bool) (x : ℕ) (xs : List ℕ) → p x ≡ true → count_by p (x ∷ xs) ≡ 1 + count_by p xs
count_on p x xs e = rw (sum_by-cons, e) refl

count_off : (p : ℕ → Bool) (x : ℕ) (xs : List ℕ) → p x ≡ false → count_by p (x ∷ xs) ≡ count_by p xs
count_off p x xs e = rw (sum_by-cons, e) (omega arith)

pub in_head : (x : ℕ) (xs : List ℕ) → is_listed (x ∷ xs) x ≡ true
in_head x xs = rw (eq-eqb x x refl) refl

pub in_tail : (x y : ℕ) (xs : List ℕ) → is_listed xs y ≡ true → is_listed (x ∷ xs) y ≡ true
in_tail x y xs h = rw h (or_right (x == y) true refl)

-- the first of a listing in ascending order doesn't come again
pub not_again : (issue_numbers : List ℕ) (x : ℕ) (xs : List ℕ) → Rises issue_numbers (x ∷ xs) → is_listed xs x ≡ false
not_again issue_numbers x xs rises = elim (cases_Bool (is_listed xs x)) [
  | inr e ↦ e
  | inl e ↦ let less : slice_index issue_numbers x < slice_index issue_numbers x = rises.0 x e in absurd (omega arith)
]

count_agree : (f g : ℕ → Bool) (xs : List ℕ) → ((x : ℕ) → is_listed xs x ≡ true → f x ≡ g x)
    → count_by f xs ≡ count_by g xs
count_agree f g [] each = refl
count_agree f g (x ∷ xs) each =
    let rest : count_by f xs ≡ count_by g xs = count_agree f g xs (λ y h. each y (in_tail x y xs h)) in
    let same : f x ≡ g x = each x (in_head x xs) in
    elim (cases_Bool (g x)) [
      | inl e ↦ count_on f x xs (same ∙ e) ∙ (ap (λ n. 1 + n) rest ∙ sym (count_on g x xs e))
      | inr e ↦ count_off f x xs (same ∙ e) ∙ (rest ∙ sym (count_off g x xs e))
    ]

pub count_all : (f : ℕ → Bool) (xs : List ℕ) → ((x : ℕ) → is_listed xs x ≡ true → f x ≡ true)
    → count_by f xs ≡ length xs
count_all f [] each = refl
count_all f (x ∷ xs) each =
    let rest : count_by f xs ≡ length xs = count_all f xs (λ y h. each y (in_tail x y xs h)) in
    count_on f x xs (each x (in_head x xs)) ∙ omega arith

-- all except one number
abbrev but : (ℕ → Bool) → ℕ → ℕ → Bool
but f y x = f x && not (x == y)

but_other : (f : ℕ → Bool) (y x : ℕ) → x ≢ y → but f y x ≡ f x
but_other f y x apart = elim (cases_Bool (x == y)) [
  | inl e ↦ absurd (apart (eqb-true x y e))
  | inr e ↦ rw e (and_true (f x))
]
  where
    and_true : (b : Bool) → (b && true) ≡ b
    and_true true = refl
    and_true false = refl

but_same : (f : ℕ → Bool) (y : ℕ) → but f y y ≡ false
but_same f y = rw (eq-eqb y y refl) (and_false (f y))
  where
    and_false : (b : Bool) → (b && false) ≡ false
    and_false true = refl
    and_false false = refl

-- a listing's members that pass a test are counted
pub count_listed : (f : ℕ → Bool) (issue_numbers xs : List ℕ) → Rises issue_numbers xs
    → ((x : ℕ) → is_listed xs x ≡ true → x < 128)
    → ((x : ℕ) → x < 128 → f x ≡ true → is_listed xs x ≡ true) → count_below f 128 ≡ count_by f xs
count_listed f issue_numbers [] rises low listed = count_none f 128 (λ x l. elim (cases_Bool (f x)) [
  | inr e ↦ e
  | inl e ↦ let z : false ≡ true = listed x l e in absurd (cc)
])
count_listed f issue_numbers (y ∷ ys) rises low listed = elim (cases_Bool (f y)) [
  | inl on ↦
      let small : y < 128 = low y (in_head y ys) in
      let rest : count_below (but f y) 128 ≡ count_by (but f y) ys =
      count_listed (but f y) issue_numbers ys rises.1 (λ x h. low x (in_tail y x ys h))
      (λ x l e. behind x l (and_parts (f x) (not (x == y)) e)) in
      let same : count_by (but f y) ys ≡ count_by f ys =
      count_agree (but f y) f ys (λ x h. but_other f y x
      (λ z. both_ways (is_listed ys y) (not_again issue_numbers y ys rises) (rw z at h))) in
      let more : count_below f 128 ≡ count_below (but f y) 128 + 1 =
      count_one (but f y) f y 128 small (but_same f y) on (λ x l apart. sym (but_other f y x apart)) in
      let here : count_by f (y ∷ ys) ≡ 1 + count_by f ys = count_on f y ys on in
      omega arith
  | inr off ↦ count_listed f issue_numbers ys rises.1 (λ x h. low x (in_tail y x ys h))
      (λ x l e. later x (listed x l e) e off) ∙ sym (count_off f y ys off)
]
  where
    behind : (x : ℕ) → x < 128 → (f x ≡ true) × (not (x == y) ≡ true) → is_listed ys x ≡ true
    behind x l two = elim (cases_Bool (y == x)) [
      | inl e ↦ let same : x ≡ y = sym (eqb-true y x e) in
          absurd (both_ways (not (x == y)) (rw (eq-eqb x y same) refl) two.1)
      | inr e ↦ rw e at (listed x l two.0)
    ]

    later : (x : ℕ) → is_listed (y ∷ ys) x ≡ true → f x ≡ true → f y ≡ false → is_listed ys x ≡ true
    later x h e off = elim (cases_Bool (y == x)) [
      | inl k ↦ absurd (both_ways (f y) off (ap f (eqb-true y x k) ∙ e))
      | inr k ↦ rw k at h
    ]

-- one that is counted
pub some_counted : (f : ℕ → Bool) (xs : List ℕ) → 0 < count_by f xs → (x : ℕ) × (is_listed xs x ≡ true) × (f x ≡ true)
some_counted f [] l = absurd (omega arith)
some_counted f (x ∷ xs) l = elim (cases_Bool (f x)) [
  | inl e ↦ (x, in_head x xs, e)
  | inr e ↦
      let rest = some_counted f xs (let k : count_by f (x ∷ xs) ≡ count_by f xs = count_off f x xs e in omega arith) in
      (rest.0, in_tail x rest.0 xs rest.1, rest.2)
]

-- if none is counted, none passes
pub none_counted : (f : ℕ → Bool) (xs : List ℕ) (x : ℕ) → count_by f xs ≡ 0 → is_listed xs x ≡ true → f x ≡ false
none_counted f [] x e h = absurd (cc)
none_counted f (y ∷ ys) x e h = elim (cases_Bool (f y)) [
  | inl on ↦ let k : count_by f (y ∷ ys) ≡ 1 + count_by f ys = count_on f y ys on in absurd (omega arith)
  | inr off ↦ elim (cases_Bool (y == x)) [
    | inl k ↦ ap f (sym (eqb-true y x k)) ∙ off
    | inr k ↦ none_counted f ys x (sym (count_off f y ys off) ∙ e) (rw k at h)
  ]
]
