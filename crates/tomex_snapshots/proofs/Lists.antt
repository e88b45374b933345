-- Lists of a function's values, and pieces of text that some elements don't have.
use Rattle.std.proofs.Common.{◌≡◌, ◌∙◌, ◌<◌, ◌≤◌, ◌+◌, ◌-◌, ℕ, zero, suc, arith, refl, ap, sym, List, [], ◌∷◌}
use Rattle.std.proofs.Common.{◌++◌, append_assoc, length}
use Rattle.std.proofs.Common.{map, inl, inr}
use Rattle.std.specs.Prelude.{◌≢◌, slice_set}
use Rattle.std.specs.List.{flat_map, range_with_len}
use Rattle.std.proofs.lemmas.Bool.{cases_eq}
use Rattle.std.proofs.lemmas.List.{append-nil, get_or-set_same, get_or-set_other, length-set}
use Rattle.std.proofs.lemmas.List.FromFn.{fill_by_all, get_or-map-range_with_len, length-map-range_with_len}

pub map_same : {A B : Type 0} (f g : A → B) → ((x : A) → f x ≡ g x) → (xs : List A) → map f xs ≡ map g xs
map_same f g same [] = refl
map_same f g same (x ∷ xs) = rw (same x, map_same f g same xs) refl

pub flat_map_same : {A B : Type 0} (f g : A → List B) → ((x : A) → f x ≡ g x) → (xs : List A)
    → flat_map f xs ≡ flat_map g xs
flat_map_same f g same [] = refl
flat_map_same f g same (x ∷ xs) = rw (same x, flat_map_same f g same xs) refl

map_from : {A : Type 0} (a n : ℕ) (f g : ℕ → A) → ((k : ℕ) → a ≤ k → k < a + n → f k ≡ g k)
    → map f (range_with_len a n) ≡ map g (range_with_len a n)
map_from a zero f g same = refl
map_from a (suc n) f g same =
    rw (
      same a (omega arith) (omega arith),
      map_from (a + 1) n f g (λ k low high. same k (omega (arith, low)) (omega
          (arith, high))),
    ) refl

-- a list of the values of a function, in which one is set
pub set_is : {A : Type 0} (n : ℕ) (f g : ℕ → A) (i : ℕ) (v d : A) → g i ≡ v
    → ((k : ℕ) → k < n → k ≢ i → g k ≡ f k)
    → slice_set (map f (range_with_len 0 n)) i v ≡ map g (range_with_len 0 n)
set_is n f g i v d here others =
    let count : length (map f (range_with_len 0 n)) ≡ n = length-map-range_with_len f 0 n in
    fill_by_all g (slice_set (map f (range_with_len 0 n)) i v) n d
    (length-set (map f (range_with_len 0 n)) i v ∙ count) (λ k l. elim (cases_eq k i) [
      | inl e ↦ rw e (get_or-set_same (map f (range_with_len 0 n)) i v d (omega (arith, count, l, e)) ∙ sym here)
      | inr e ↦ get_or-set_other (map f (range_with_len 0 n)) i k v d e
          ∙ (get_or-map-range_with_len f 0 n k k d l (omega arith) ∙ sym (others k l e))
    ])

-- two functions that agree below a number
pub map_below : {A : Type 0} (n : ℕ) (f g : ℕ → A) → ((k : ℕ) → k < n → f k ≡ g k)
    → map f (range_with_len 0 n) ≡ map g (range_with_len 0 n)
map_below n f g same = map_from 0 n f g (λ k low high. same k (omega (arith, high)))

-- the piece of one more number
pub number_more : (f : ℕ → List ℕ) (i n : ℕ) (before after whole : List ℕ) → i < n → after ≡ before ++ f i
    → before ++ flat_map f (range_with_len i (n - i)) ≡ whole
    → after ++ flat_map f (range_with_len (i + 1) (n - (i + 1))) ≡ whole
number_more f i n before after whole within grown so_far =
    let count : n - i ≡ suc (n - (i + 1)) = omega (arith, within) in
    ap (λ (s : List ℕ). s ++ flat_map f (range_with_len (i + 1) (n - (i + 1)))) grown
    ∙ (append_assoc before (f i) (flat_map f (range_with_len (i + 1) (n - (i + 1))))
    ∙ (ap (λ (m : ℕ). before ++ flat_map f (range_with_len i m)) (sym count) ∙ so_far))

-- after the last number
pub no_number : (f : ℕ → List ℕ) (i n : ℕ) (text whole : List ℕ) → n ≤ i
    → text ++ flat_map f (range_with_len i (n - i)) ≡ whole → text ≡ whole
no_number f i n text whole past so_far =
    let none : n - i ≡ 0 = omega (arith, past) in
    sym (append-nil text) ∙ (ap (λ (m : ℕ). text ++ flat_map f (range_with_len i m)) (sym none) ∙ so_far)
