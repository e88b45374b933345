-- How many items of a list pass a test.
use Rattle.std.proofs.Common.{◌≡◌, ◌∙◌, ap, arith, refl, sym, ℕ, zero, suc, ◌+◌, ◌*◌, ◌<◌, ◌≤◌, Bool, true, false, cond}
use Rattle.std.proofs.Common.{List, [], ◌∷◌, get_or, length}
use Rattle.std.specs.Prelude.{count_by, sum_by}
use Rattle.std.specs.List.{filter}
use Rattle.std.proofs.lemmas.List.Sums.{sum_by-cons}

pub count_by-cons : {X : Type 0} (q : X → Bool) (x : X) (xs : List X)
    → count_by q (x ∷ xs) ≡ cond (q x) 1 0 + count_by q xs
count_by-cons q x xs = sum_by-cons (λ y. cond (q y) 1 0) x xs

-- how many pass, if the first ones do, or the last ones

pub count_front : {X : Type 0} (q : X → Bool) (xs : List X) (k : ℕ) → k ≤ length xs
    → ((i : ℕ) (d : X) → i < k → q (get_or xs i d) ≡ true) → k ≤ count_by q xs
count_front q xs zero l all = omega arith
count_front q [] (suc k) l all = absurd (omega (arith, l))
count_front q (x ∷ xs) (suc k) l all =
    let rest = count_front q xs k (omega (arith, l)) (λ i d m. all (suc i) d (omega arith)) in
    let here : q x ≡ true = all 0 x (omega arith) in
    rw (count_by-cons q x xs, here) (omega (arith, rest))

pub count_back : {X : Type 0} (q : X → Bool) (xs : List X) (k : ℕ)
    → ((i : ℕ) (d : X) → k ≤ i → i < length xs → q (get_or xs i d) ≡ true) → length xs ≤ k + count_by q xs
count_back q [] k all = omega arith
count_back q (x ∷ xs) zero all =
    let rest = count_back q xs zero (λ i d l m. all (suc i) d (omega arith) (omega (arith, m))) in
    let here : q x ≡ true = all 0 x (omega arith) (omega arith) in
    rw (count_by-cons q x xs, here) (omega (arith, rest))
count_back q (x ∷ xs) (suc k) all =
    let rest = count_back q xs k (λ i d l m. all (suc i) d (omega (arith, l)) (omega (arith, m))) in
    let more = count_more (q x) in
    rw (count_by-cons q x xs) (omega (arith, rest, more))
  where
    count_more : (b : Bool) → count_by q xs ≤ cond b 1 0 + count_by q xs
    count_more b = omega arith

-- of a list with one item more
pub count_filter : {X : Type 0} (q p : X → Bool) (x : X) (xs : List X)
    → count_by q (filter p (x ∷ xs)) ≡ cond (p x) (cond (q x) 1 0) 0 + count_by q (filter p xs)
count_filter q p x xs = go (p x)
  where
    go : (b : Bool) → count_by q (cond b (x ∷ filter p xs) (filter p xs))
        ≡ cond b (cond (q x) 1 0) 0 + count_by q (filter p xs)
    go true = count_by-cons q x (filter p xs)
    go false = omega arith

pub count_chosen : {X : Type 0} (q p : X → Bool) (xs : List X)
    → count_by q (filter p xs) ≡ sum_by (λ x. cond (p x) (cond (q x) 1 0) 0) xs
count_chosen q p [] = refl
count_chosen q p (x ∷ xs) =
    count_filter q p x xs
    ∙ (ap (λ (n : ℕ). cond (p x) (cond (q x) 1 0) 0 + n) (count_chosen q p xs)
    ∙ sym (sum_by-cons (λ y. cond (p y) (cond (q y) 1 0) 0) x xs))

-- groups to which each item belongs once: what is counted of them adds up to what is counted of all
module _ {X C : Type 0} (is_in : C → X → Bool) (groups : List C) (q : X → Bool) where
  abbrev in_groups : List X → ℕ
  in_groups xs = sum_by (λ c. count_by q (filter (is_in c) xs)) groups

  pub counts_share : (xs : List X)
      → ((k : ℕ) (d : X) → k < length xs → sum_by (λ c. cond (is_in c (get_or xs k d)) 1 0) groups ≡ 1)
      → in_groups xs ≡ count_by q xs
  counts_share [] once = none groups
    where
      none : (cs : List C) → sum_by (λ c. count_by q []) cs ≡ 0
      none [] = refl
      none (c ∷ cs) = let rest = none cs in sum_by-cons (λ (e : C). count_by q []) c cs ∙ omega (arith, rest)
  counts_share (x ∷ xs) once =
      let rest = counts_share xs (λ k d l. once (suc k) d (omega arith)) in
      let here : sum_by (λ c. cond (is_in c x) 1 0) groups ≡ 1 = once 0 x (omega arith) in
      more groups (sum_by (λ c. cond (is_in c x) 1 0) groups) refl
      ∙ (rw here (omega (arith, rest, count_by-cons q x xs)))
    where
      more : (cs : List C) (n : ℕ) → sum_by (λ c. cond (is_in c x) 1 0) cs ≡ n
          → sum_by (λ c. count_by q (filter (is_in c) (x ∷ xs))) cs
          ≡ n * cond (q x) 1 0 + sum_by (λ c. count_by q (filter (is_in c) xs)) cs
      more [] n e = rw (sym e) (omega arith)
      more (c ∷ cs) n e =
          let own = count_filter q (is_in c) x xs in
          let others = more cs (sum_by (λ d. cond (is_in d x) 1 0) cs) refl in
          let count = sum_by-cons (λ d. cond (is_in d x) 1 0) c cs in
          sum_by-cons (λ d. count_by q (filter (is_in d) (x ∷ xs))) c cs
          ∙ (one (is_in c x) (cond (q x) 1 0) _ _ n _ own others (sym e ∙ count)
          ∙ ap (λ (m : ℕ). n * cond (q x) 1 0 + m)
          (sym (sum_by-cons (λ d. count_by q (filter (is_in d) xs)) c cs)))
        where
          one : (b : Bool) (w a s n m : ℕ) {t u : ℕ} → t ≡ cond b w 0 + a → u ≡ m * w + s → n ≡ cond b 1 0 + m
              → t + u ≡ n * w + (a + s)
          one true w a s n m e f g = rw (e, f, g) (omega arith)
          one false w a s n m e f g = rw (e, f, g) (omega arith)
