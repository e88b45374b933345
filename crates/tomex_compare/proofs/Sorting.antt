-- Lists in which each item stands before each later one: two of the same items are equal.
use Rattle.std.proofs.Common.{◌≡◌, ◌∙◌, ◌<◌, ◌⊎◌, ⊎_elim, inl, inr, ap, arith, refl, subst, sym, ℕ, zero, suc, List, []}
use Rattle.std.proofs.Common.{◌∷◌, Bool, true, false, cond, get_or, length}
use Rattle.std.specs.List.{AllByRecursion, AllPairs, Contains, filter}
use Rattle.std.specs.List.Sorted.{IsPermutation}
use Rattle.std.proofs.lemmas.Bool.{cases_Bool}
use Rattle.std.proofs.lemmas.List.Elements.{All-contains, All-from_recursion, recursion_from_All}
use Rattle.std.proofs.lemmas.List.Kept.{AllPairs-cons}
use Rattle.std.proofs.lemmas.List.Sorted.{All-permutation, Contains-permutation}

module _ {X : Type 0} where
  -- x is one of them
  abbrev pub Has : List X → X → Type 0
  Has [] x = ⊥
  Has (y ∷ ys) x = (y ≡ x) ⊎ Has ys x

  pub has_at : (xs : List X) (k : ℕ) (d : X) → k < length xs → Has xs (get_or xs k d)
  has_at [] k d l = absurd (omega arith)
  has_at (x ∷ xs) zero d l = inl refl
  has_at (x ∷ xs) (suc k) d l = inr (has_at xs k d (omega arith))

  pub has_contains : (xs : List X) (x : X) → Has xs x → Contains xs x
  has_contains [] x h = absurd h
  has_contains (y ∷ ys) x (inl e) = (0, omega arith, e)
  has_contains (y ∷ ys) x (inr t) = let w = has_contains ys x t in let l : w.0 < length ys = w.1 in
      (suc w.0, omega arith, w.2)

  pub among : (xs : List X) (x : X) → Contains xs x → Has xs x
  among xs x c = subst (Has xs) c.2 (has_at xs c.0 x c.1)

  pub has_moved : (xs ys : List X) (x : X) → IsPermutation xs ys → Has xs x → Has ys x
  has_moved xs ys x moved h = among ys x (Contains-permutation xs ys x moved (has_contains xs x h))

  pub all_has : (P : X → Type 0) (xs : List X) (x : X) → AllByRecursion P xs → Has xs x → P x
  all_has P xs x all h = All-contains P xs x (All-from_recursion P xs all) (has_contains xs x h)

  pub all_from : (P : X → Type 0) (xs : List X) → ((x : X) → Has xs x → P x) → AllByRecursion P xs
  all_from P xs f = recursion_from_All P xs (λ k d l. f (get_or xs k d) (has_at xs k d l))

  pub all_moved : (P : X → Type 0) (xs ys : List X) → IsPermutation xs ys → AllByRecursion P xs → AllByRecursion P ys
  all_moved P xs ys moved all =
      recursion_from_All P ys (All-permutation P xs ys moved (All-from_recursion P xs all))

  -- those that pass a test

  pub has_kept : (q : X → Bool) (xs : List X) (x : X) → Has xs x → q x ≡ true → Has (filter q xs) x
  has_kept q [] x h e = h
  has_kept q (y ∷ ys) x (inl i) e = rw (ap q i ∙ e) (inl i)
  has_kept q (y ∷ ys) x (inr h) e = let k = has_kept q ys x h e in
      elim (cases_Bool (q y)) [ inl f ↦ rw f (inr k) | inr f ↦ rw f k ]

  pub kept_has : (q : X → Bool) (xs : List X) (x : X) → Has (filter q xs) x → Has xs x × (q x ≡ true)
  kept_has q [] x h = absurd h
  kept_has q (y ∷ ys) x h = go (q y) refl h (kept_has q ys x)
    where
      go : (b : Bool) → q y ≡ b → Has (cond b (y ∷ filter q ys) (filter q ys)) x
          → (Has (filter q ys) x → Has ys x × (q x ≡ true)) → ((y ≡ x) ⊎ Has ys x) × (q x ≡ true)
      go true e (inl i) rest = (inl i, ap q (sym i) ∙ e)
      go true e (inr t) rest = let r = rest t in (inr r.0, r.1)
      go false e t rest = let r = rest t in (inr r.0, r.1)

-- R holds of each item and each later one
abbrev pub Rises : {X : Type 0} → (X → X → Type 0) → List X → Type 0
Rises R [] = Unit {0}
Rises R (x ∷ xs) = AllByRecursion (R x) xs × Rises R xs

pub rises_pairs : {X : Type 0} (R : X → X → Type 0) (xs : List X) → Rises R xs → AllPairs R xs
rises_pairs R [] up = λ j k d l m. absurd (omega arith)
rises_pairs R (x ∷ xs) up = AllPairs-cons R x xs (All-from_recursion (R x) xs up.0) (rises_pairs R xs up.1)

pub pairs_rise : {X : Type 0} (R : X → X → Type 0) (xs : List X) → AllPairs R xs → Rises R xs
pairs_rise R [] f = tt
pairs_rise R (x ∷ xs) f = (
  recursion_from_All (R x) xs (λ k d l. f 0 (suc k) d (omega arith) (omega arith)),
  pairs_rise R xs (λ j k d l m. f (suc j) (suc k) d (omega arith) (omega arith)),
)

module _ {X : Type 0} (R : X → X → Type 0) (one_way : (x y : X) → R x y → R y x → ⊥) where
  same_head : (x y : X) (xs ys : List X) → AllByRecursion (R x) xs → AllByRecursion (R y) ys → Has (y ∷ ys) x
      → Has (x ∷ xs) y → y ≡ x
  same_head x y xs ys ux uy (inl e) k = e
  same_head x y xs ys ux uy (inr h) (inl e) = sym e
  same_head x y xs ys ux uy (inr h) (inr k) = absurd (one_way x y (all_has (R x) xs y ux k) (all_has (R y) ys x uy h))

  same_tail : (x : X) (xs ys : List X) → AllByRecursion (R x) xs → ((z : X) → Has (x ∷ xs) z → Has (x ∷ ys) z)
      → (z : X) → Has xs z → Has ys z
  same_tail x xs ys up f z h = ⊎_elim
      (λ (i : x ≡ z). let b = subst (R x) (sym i) (all_has (R x) xs z up h) in absurd (one_way x x b b))
      (λ (t : Has ys z). t) (f z (inr h))

  pub same_items : (xs ys : List X) → Rises R xs → Rises R ys → ((z : X) → Has xs z → Has ys z)
      → ((z : X) → Has ys z → Has xs z) → xs ≡ ys
  same_items [] [] ux uy f g = refl
  same_items [] (y ∷ ys) ux uy f g = absurd (g y (inl refl))
  same_items (x ∷ xs) [] ux uy f g = absurd (f x (inl refl))
  same_items (x ∷ xs) (y ∷ ys) ux uy f g =
      let e : y ≡ x = same_head x y xs ys ux.0 uy.0 (f x (inl refl)) (g y (inl refl)) in
      let same : xs ≡ ys = same_items xs ys ux.1 uy.1 (same_tail x xs ys ux.0 (λ z h. rw e at (f z h)))
      (same_tail x ys xs (rw e at uy.0) (λ z h. g z (rw e h))) in
      rw (e, same) refl
