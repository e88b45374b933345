-- Sums over visits are sums over their places, since each has one.
use Rattle.std.proofs.Common.{◌≡◌, ◌≢◌, ◌⊎◌, ◌∙◌, sym, subst, refl, inl, inr, ℕ, ◌+◌, ◌==◌, Bool, true, false, cond}
use Rattle.std.proofs.Common.{List, [], ◌∷◌, arith}
use Rattle.std.specs.Prelude.{sum_by, length}
use Rattle.std.specs.List.{list_any, AllByRecursion}
use Rattle.std.specs.List.Sorted.{IsStrictlySortedBy}
use Rattle.std.specs.Ordering.{nat_cmp}
use Rattle.std.specs.declared.cmp.Ordering.TheVariants.{Less, Equal}
use Rattle.std.proofs.lemmas.Bool.{ne_eqb}
use Rattle.std.proofs.lemmas.Bool.Decides.{eqb_tells}
use Rattle.std.proofs.Math.Bool.{or-true}
use Rattle.std.proofs.lemmas.Cmp.{nat_cmp_total, tied_itself}
use Rattle.std.proofs.lemmas.List.Sums.{sum_by-cons}
use Rattle.std.proofs.lemmas.Map.Keys.{sorted_head, sorted_tail}
use Rattle.tomex_rvexec.specs.declared.step.Step.{Step}
use Rattle.tomex_run_views.specs.ByPlace.{Visit, visits_of}

apart : (k y : ℕ) → nat_cmp k y ≡ Less → (k == y) ≡ false
apart k y less = ne_eqb k y (λ e. let bad : Less ≡ Equal = sym (subst (λ z. nat_cmp k z ≡ Less) (sym e) less)
    ∙ tied_itself nat_cmp_total k in absurd (cc))

eqb_itself : (n : ℕ) → (n == n) ≡ true
eqb_itself n = go (eqb_tells n n)
  where
    go : ((n == n) ≡ true) × (n ≡ n) ⊎ ((n == n) ≡ false) × (n ≢ n) → (n == n) ≡ true
    go (inl same) = same.0
    go (inr other) = absurd (other.1 refl)

-- one more visit is one more term at its place
one_more : (key : Step → ℕ) (f : Visit → ℕ) (v : Visit) (vs : List Visit) (pc : ℕ)
    → sum_by f (visits_of key pc (v ∷ vs)) ≡ cond (key v.step == pc) (f v) 0 + sum_by f (visits_of key pc vs)
one_more key f v vs pc = go (key v.step == pc) refl
  where
    go : (b : Bool) → (key v.step == pc) ≡ b → sum_by f (visits_of key pc (v ∷ vs)) ≡ cond b (f v) 0
        + sum_by f (visits_of key pc vs)
    go true e = rw e (sum_by-cons f v (visits_of key pc vs))
    go false e = rw e (omega arith)

-- and so it is of all places together
one_more_in_all : (key : Step → ℕ) (f : Visit → ℕ) (v : Visit) (vs : List Visit) (pcs : List ℕ)
    → sum_by (λ pc. sum_by f (visits_of key pc (v ∷ vs))) pcs
    ≡ sum_by (λ pc. cond (key v.step == pc) (f v) 0) pcs + sum_by (λ pc. sum_by f (visits_of key pc vs)) pcs
one_more_in_all key f v vs [] = refl
one_more_in_all key f v vs (pc ∷ pcs) =
    omega (
      arith,
      one_more key f v vs pc,
      one_more_in_all key f v vs pcs,
      sum_by-cons (λ pc. sum_by f (visits_of key pc (v ∷ vs))) pc pcs,
      sum_by-cons (λ pc. cond (key v.step == pc) (f v) 0) pc pcs,
      sum_by-cons (λ pc. sum_by f (visits_of key pc vs)) pc pcs,
    )

-- a term at an address below all is nowhere
nowhere : (n k : ℕ) (pcs : List ℕ) → AllByRecursion (λ y. nat_cmp k y ≡ Less) pcs
    → sum_by (λ pc. cond (k == pc) n 0) pcs ≡ 0
nowhere n k [] below = refl
nowhere n k (pc ∷ pcs) below =
    rw (sum_by-cons (λ pc. cond (k == pc) n 0) pc pcs, apart k pc below.0, nowhere n k pcs below.1) refl

-- and at one of them it is there once
once : (n k : ℕ) (pcs : List ℕ) → IsStrictlySortedBy nat_cmp pcs → list_any (λ p. p == k) pcs ≡ true
    → sum_by (λ pc. cond (k == pc) n 0) pcs ≡ n
once n k [] ascending there = absurd (cc)
once n k (pc ∷ pcs) ascending there =
    sum_by-cons (λ pc. cond (k == pc) n 0) pc pcs
    ∙ go (eqb_tells pc k) (λ in_rest. once n k pcs (sorted_tail nat_cmp pc pcs ascending) in_rest)
  where
    go : ((pc == k) ≡ true) × (pc ≡ k) ⊎ ((pc == k) ≡ false) × (pc ≢ k)
        → (list_any (λ p. p == k) pcs ≡ true → sum_by (λ pc. cond (k == pc) n 0) pcs ≡ n)
        → cond (k == pc) n 0 + sum_by (λ pc. cond (k == pc) n 0) pcs ≡ n
    go (inl same) later =
        let above = subst (λ (k : ℕ). AllByRecursion (λ y. nat_cmp k y ≡ Less) pcs) same.1
        (sorted_head nat_cmp pc pcs ascending) in
        rw (nowhere n k pcs above, same.1, eqb_itself k) (omega arith)
    go (inr other) later =
        rw (later (rw other.0 at there), ne_eqb k pc (λ e. other.1 (sym e))) (omega arith)

-- so a sum over all visits is that over all places
pub by_keys : (key : Step → ℕ) (f : Visit → ℕ) (visits : List Visit) (pcs : List ℕ) → IsStrictlySortedBy nat_cmp pcs
    → ((pc : ℕ) → list_any (λ v. key v.step == pc) visits ≡ true → list_any (λ p. p == pc) pcs ≡ true)
    → sum_by (λ pc. sum_by f (visits_of key pc visits)) pcs ≡ sum_by f visits
by_keys key f [] pcs ascending there = nothing pcs
  where
    nothing : (pcs : List ℕ) → sum_by (λ pc. 0) pcs ≡ 0
    nothing [] = refl
    nothing (pc ∷ pcs) = rw (sum_by-cons (λ pc. 0) pc pcs, nothing pcs) refl
by_keys key f (v ∷ vs) pcs ascending there =
    let own = once (f v) (key v.step) pcs ascending (there (key v.step) (rw (eqb_itself (key v.step)) refl)) in
    let others = by_keys key f vs pcs ascending (λ pc in_rest. there pc (rw in_rest (or-true _))) in
    omega (arith, one_more_in_all key f v vs pcs, own, others, sum_by-cons f v vs)

-- as many as there are is one for each
pub ones : {X : Type 0} (xs : List X) → length xs ≡ sum_by (λ x. 1) xs
ones [] = refl
ones (x ∷ xs) = omega (arith, ones xs, sum_by-cons (λ x. 1) x xs)

pub ones_in_all : (key : Step → ℕ) (visits : List Visit) (pcs : List ℕ)
    → sum_by (λ pc. length (visits_of key pc visits)) pcs ≡ sum_by (λ pc. sum_by (λ v. 1) (visits_of key pc visits)) pcs
ones_in_all key visits [] = refl
ones_in_all key visits (pc ∷ pcs) = omega (
  arith,
  ones (visits_of key pc visits),
  ones_in_all key visits pcs,
  sum_by-cons (λ pc. length (visits_of key pc visits)) pc pcs,
  sum_by-cons (λ pc. sum_by (λ v. 1) (visits_of key pc visits)) pc pcs,
)
