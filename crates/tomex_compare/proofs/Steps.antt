-- What loops have made, one turn later.
use Rattle.std.proofs.Common.{◌≡◌, ◌∙◌, ap, ap₂, arith, sym, ℕ, ◌+◌, ◌<◌, ◌≤◌, Bool, true, false, cond, List, [], ◌∷◌}
use Rattle.std.proofs.Common.{◌++◌}
use Rattle.std.proofs.Common.{append_assoc, get_or, length, map, nat_lt, take}
use Rattle.std.specs.Prelude.{nat_le}
use Rattle.std.specs.List.{best_of, flat_map, range_with_len}
use Rattle.std.proofs.lemmas.Bool.Decides.{nat_tests}
use Rattle.std.proofs.lemmas.Grind.{flat_map-append}
use Rattle.std.proofs.lemmas.List.{append-nil, map-append, take_more}
use Rattle.std.proofs.lemmas.List.FromFn.{map-range_with_len_more}
use Rattle.std.proofs.lemmas.List.Sums.{fold-append}

-- an item for one number more
pub number_pushed : {X : Type 0} (f : ℕ → X) (k : ℕ) (x : X) (before after : List X)
    → before ≡ map f (range_with_len 0 k) → x ≡ f k → after ≡ before ++ x ∷ []
    → after ≡ map f (range_with_len 0 (k + 1))
number_pushed f k x before after so_far own grown =
    grown ∙ (ap₂ (λ (xs : List _) (y : _). xs ++ y ∷ []) so_far own
    ∙ sym (map-range_with_len_more f 0 k k (omega arith)))

-- three items, one after another
pub three_pushed : {X : Type 0} (xs ys zs all : List X) (a b c own other both : X) → ys ≡ xs ++ a ∷ []
    → zs ≡ ys ++ b ∷ [] → all ≡ zs ++ c ∷ [] → a ≡ own → b ≡ other → c ≡ both → all ≡ xs ++ own ∷ other ∷ both ∷ []
three_pushed xs ys zs all a b c own other both e f g p q r =
    rw (g, f, e, p, q, r)
    (ap (λ (ts : List _). ts ++ both ∷ []) (append_assoc xs (own ∷ []) (other ∷ []))
    ∙ append_assoc xs (own ∷ other ∷ []) (both ∷ []))

-- the best of one number more

module _ {X : Type 0} (beats : X → X → Bool) (a : X) (f : ℕ → X) (k : ℕ) (so_far here : X)
    (is : so_far ≡ best_of beats a (map f (range_with_len 0 k))) (own : here ≡ f k) where
  next : best_of beats a (map f (range_with_len 0 (k + 1))) ≡ cond (beats here so_far) here so_far
  next =
      ap (best_of beats a) (map-range_with_len_more f 0 k k (omega arith))
      ∙ (fold-append (λ (b x : X). cond (beats x b) x b) a (map f (range_with_len 0 k)) (f k ∷ [])
      ∙ ap₂ (λ (b x : X). cond (beats x b) x b) (sym is) (sym own))

  pub takes : beats here so_far ≡ true → here ≡ best_of beats a (map f (range_with_len 0 (k + 1)))
  takes e = sym (next ∙ ap (λ (b : Bool). cond b here so_far) e)

  pub keeps : beats here so_far ≡ false → so_far ≡ best_of beats a (map f (range_with_len 0 (k + 1)))
  keeps e = sym (next ∙ ap (λ (b : Bool). cond b here so_far) e)

pub is_less : (m n : ℕ) → m < n → nat_lt m n ≡ true
is_less m n l = grind (arith, nat_tests)

pub is_no_less : (m n : ℕ) → n ≤ m → nat_lt m n ≡ false
is_no_less m n l = grind (arith, nat_tests)

pub is_no_more : (m n : ℕ) → m ≤ n → nat_le m n ≡ true
is_no_more m n l = grind (arith, nat_tests)

pub is_more : (m n : ℕ) → n < m → nat_le m n ≡ false
is_more m n l = grind (arith, nat_tests)
