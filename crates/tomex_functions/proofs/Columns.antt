-- The columns of the names, and of steps without one, add up to what all functions take.
use Rattle.std.proofs.Common.{◌≡◌, ◌⊎◌, ◌∙◌, arith, refl, inl, inr, ℕ, ◌+◌, Bool, true, false, cond}
use Rattle.std.proofs.Common.{List, [], ◌∷◌, Option, Some, None}
use Rattle.std.specs.Prelude.{sum_by}
use Rattle.std.specs.List.{AllByRecursion, IsDistinct, list_any}
use Rattle.std.specs.Str.{bytes_eq}
use Rattle.std.proofs.Math.Bool.{or-true}
use Rattle.std.proofs.lemmas.Bool.{cases_Bool}
use Rattle.std.proofs.lemmas.Cmp.{nat_list_eq_equiv}
use Rattle.std.proofs.lemmas.List.Sums.{sum_by-cons}
use Rattle.tomex_functions.specs.Shares.{Entry, entries_named, same_name}

-- a term at a name that equals none of the others is nowhere
nowhere : (b x : List ℕ) (n : ℕ) (names : List (List ℕ)) → bytes_eq b x ≡ true
    → AllByRecursion (λ y. bytes_eq x y ≡ false) names → sum_by (λ name. cond (bytes_eq name b) n 0) names ≡ 0
nowhere b x n [] same apart = refl
nowhere b x n (y ∷ names) same apart =
    let other : bytes_eq y b ≡ false =
    nat_list_eq_equiv.symm y b ∙ (nat_list_eq_equiv.congr b x y same ∙ apart.0) in
    rw (sum_by-cons (λ name. cond (bytes_eq name b) n 0) y names, other)
    (omega (arith, nowhere b x n names same apart.1))

-- and at one of the names it is there once
pub once : (b : List ℕ) (n : ℕ) (names : List (List ℕ)) → IsDistinct bytes_eq names → list_any (bytes_eq b) names ≡ true
    → sum_by (λ name. cond (bytes_eq name b) n 0) names ≡ n
unfolding IsDistinct
once b n [] apart there = absurd (cc)
once b n (x ∷ names) apart there =
    sum_by-cons (λ name. cond (bytes_eq name b) n 0) x names
    ∙ go (cases_Bool (bytes_eq b x)) (λ in_rest. once b n names apart.1 in_rest)
  where
    go : (bytes_eq b x ≡ true) ⊎ (bytes_eq b x ≡ false)
        → (list_any (bytes_eq b) names ≡ true → sum_by (λ name. cond (bytes_eq name b) n 0) names ≡ n)
        → cond (bytes_eq x b) n 0 + sum_by (λ name. cond (bytes_eq name b) n 0) names ≡ n
    go (inl same) rest =
        rw (nat_list_eq_equiv.symm x b, same, nowhere b x n names same apart.0) (omega arith)
    go (inr other) rest = rw (nat_list_eq_equiv.symm x b, other) (omega (arith, rest (rw other at there)))

-- a number of the entries of a name, with one entry more
one_more : (f : Entry → ℕ) (q : Option (List ℕ)) (e : Entry) (es : List Entry)
    → sum_by f (entries_named q (e ∷ es)) ≡ cond (same_name q e.name) (f e) 0 + sum_by f (entries_named q es)
one_more f q e es = go (same_name q e.name) refl
  where
    go : (b : Bool) → same_name q e.name ≡ b
        → sum_by f (entries_named q (e ∷ es)) ≡ cond b (f e) 0 + sum_by f (entries_named q es)
    go true s = rw s (sum_by-cons f e (entries_named q es))
    go false s = rw s (omega arith)

one_more_in_all : (f : Entry → ℕ) (e : Entry) (es : List Entry) (names : List (List ℕ))
    → sum_by (λ name. sum_by f (entries_named (Some name) (e ∷ es))) names
    ≡ sum_by (λ name. cond (same_name (Some name) e.name) (f e) 0) names
    + sum_by (λ name. sum_by f (entries_named (Some name) es)) names
one_more_in_all f e es [] = refl
one_more_in_all f e es (name ∷ names) = omega (
  arith,
  one_more f (Some name) e es,
  one_more_in_all f e es names,
  sum_by-cons (λ name. sum_by f (entries_named (Some name) (e ∷ es))) name names,
  sum_by-cons (λ name. cond (same_name (Some name) e.name) (f e) 0) name names,
  sum_by-cons (λ name. sum_by f (entries_named (Some name) es)) name names,
)

none_in_all : (n : ℕ) (names : List (List ℕ)) → sum_by (λ name. 0) names ≡ 0
none_in_all n [] = refl
none_in_all n (name ∷ names) = rw (sum_by-cons (λ name. 0) name names, none_in_all n names) refl

-- an entry is one of a name, or of none
own_term : (n : ℕ) (q : Option (List ℕ)) (names : List (List ℕ)) → IsDistinct bytes_eq names
    → ((b : List ℕ) → same_name (Some b) q ≡ true → list_any (bytes_eq b) names ≡ true)
    → sum_by (λ name. cond (same_name (Some name) q) n 0) names + cond (same_name None q) n 0 ≡ n
own_term n None names apart there = rw (none_in_all n names) (omega arith)
own_term n (Some b) names apart there =
    rw (once b n names apart (there b (nat_list_eq_equiv.refl b))) (omega arith)

-- the sum over all entries is that over the names and over those without one
pub by_names : (f : Entry → ℕ) (es : List Entry) (names : List (List ℕ)) → IsDistinct bytes_eq names
    → ((b : List ℕ) → list_any (λ e. same_name (Some b) e.name) es ≡ true → list_any (bytes_eq b) names ≡ true)
    → sum_by (λ name. sum_by f (entries_named (Some name) es)) names + sum_by f (entries_named None es)
    ≡ sum_by f es
by_names f [] names apart there = rw (none_in_all 0 names) refl
by_names f (e ∷ es) names apart there = omega (
  arith,
  one_more_in_all f e es names,
  one_more f None e es,
  own_term (f e) e.name names apart (λ b same. there b (rw same refl)),
  by_names f es names apart (λ b in_rest. there b (rw in_rest (or-true _))),
  sum_by-cons f e es,
)
