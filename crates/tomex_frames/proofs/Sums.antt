-- What a filter keeps, and sums over lists.
use Rattle.std.proofs.Common.{ℕ, zero, suc, ◌+◌, ◌<◌, ◌≡◌, ◌∙◌, ap, sym, Bool, true, false, cond, arith, refl, inl, inr}
use Rattle.std.proofs.Common.{List, [], ◌∷◌, length}
use Rattle.std.specs.Prelude.{All, count_by, slice_index_or, sum_by}
use Rattle.std.specs.List.{Contains, filter}
use Rattle.std.proofs.lemmas.Bool.{cases_Bool, false_from_ne_true}
use Rattle.std.proofs.lemmas.List.Elements.{All-head, All-tail}
use Rattle.std.proofs.lemmas.List.Sums.{sum_by-cons}

-- a filter keeps what passes
contains_at : {X : Type 0} (p : X → Bool) (es : List X) (e : X) (k : ℕ) → k < length es → slice_index_or es k e ≡ e
    → p e ≡ true → Contains (filter p es) e
contains_at p [] e k within is passes = absurd (omega (arith, within))
contains_at p (x ∷ es) e zero within is passes = rw (ap p is ∙ passes) (0, omega arith, is)
contains_at p (x ∷ es) e (suc k) within is passes =
    let rest = contains_at p es e k (omega (arith, within)) is passes in
    elim (cases_Bool (p x)) [
      | inl kept ↦ rw kept (suc rest.0, omega (arith, rest), rest.2)
      | inr dropped ↦ rw dropped rest
    ]

pub contains_kept : {X : Type 0} (p : X → Bool) (es : List X) (e : X) → Contains es e → p e ≡ true
    → Contains (filter p es) e
contains_kept p es e there passes = contains_at p es e there.0 there.1 there.2 passes

-- a filter that keeps what a test counts
pub count_kept : {X : Type 0} (p q : X → Bool) (es : List X) → All (λ e. p e ≡ true → q e ≡ true) es
    → count_by p (filter q es) ≡ count_by p es
count_kept p q [] keeps = refl
count_kept {X} p q (e ∷ es) keeps =
    let rest = count_kept p q es (All-tail (λ e. p e ≡ true → q e ≡ true) e es keeps) in
    let own : p e ≡ true → q e ≡ true = All-head (λ e. p e ≡ true → q e ≡ true) e es keeps in
    let all = sum_by-cons (λ (x : X). cond (p x) 1 0) e es in
    elim (cases_Bool (q e)) [
      | inl kept ↦ rw (kept, sum_by-cons (λ (x : X). cond (p x) 1 0) e (filter q es), rest, all) refl
      | inr dropped ↦
          let no : p e ≡ false = false_from_ne_true (p e) (λ yes. let k : q e ≡ true = own yes in absurd (cc)) in
          rw (dropped, rest, all, no) (omega arith)
    ]

-- all rows of all views: by views, or by steps
pub by_steps : {X : Type 0} (p : ℕ → X → Bool) (ts : List ℕ) (es : List X)
    → sum_by (λ t. count_by (p t) es) ts ≡ sum_by (λ e. count_by (λ t. p t e) ts) es
by_steps {X} p [] es = none es
  where
    none : (es : List X) → 0 ≡ sum_by (λ (e : X). 0) es
    none [] = refl
    none (e ∷ es) = none es ∙ sym (sum_by-cons (λ (e : X). 0) e es ∙ omega arith)
by_steps {X} p (t ∷ ts) es =
    sum_by-cons (λ t. count_by (p t) es) t ts
    ∙ (ap (λ (n : ℕ). count_by (p t) es + n) (by_steps p ts es) ∙ one_cycle es)
  where
    one_cycle : (es : List X) → count_by (p t) es + sum_by (λ e. count_by (λ t. p t e) ts) es
        ≡ sum_by (λ e. count_by (λ t. p t e) (t ∷ ts)) es
    one_cycle [] = refl
    one_cycle (e ∷ es) =
        let rest = one_cycle es in
        let a = sum_by-cons (λ (x : X). cond (p t x) 1 0) e es in
        let b = sum_by-cons (λ (e : X). count_by (λ t. p t e) ts) e es in
        let d = sum_by-cons (λ (e : X). count_by (λ t. p t e) (t ∷ ts)) e es in
        let f = sum_by-cons (λ (t : ℕ). cond (p t e) 1 0) t ts in
        omega arith

-- what holds of each adds up
pub sum_same : {X : Type 0} (f g : X → ℕ) (es : List X) → All (λ e. f e ≡ g e) es → sum_by f es ≡ sum_by g es
sum_same f g [] same = refl
sum_same f g (e ∷ es) same =
    let own : f e ≡ g e = All-head (λ e. f e ≡ g e) e es same in
    let rest = sum_same f g es (All-tail (λ e. f e ≡ g e) e es same) in
    let a = sum_by-cons f e es in
    let b = sum_by-cons g e es in
    omega arith

pub sum_both : {X : Type 0} (f g : X → ℕ) (es : List X) → sum_by (λ e. f e + g e) es ≡ sum_by f es + sum_by g es
sum_both f g [] = refl
sum_both f g (e ∷ es) =
    let rest = sum_both f g es in
    let a = sum_by-cons f e es in
    let b = sum_by-cons g e es in
    let d = sum_by-cons (λ e. f e + g e) e es in
    omega arith
