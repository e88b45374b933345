-- The rows that are chosen from a long front.
use Rattle.std.proofs.Common.{◌≡◌, ◌∙◌, ap, sym, arith, ℕ, suc, ◌+◌, ◌-◌, ◌<◌, ◌≤◌, List, [], ◌∷◌, ◌++◌, append_assoc}
use Rattle.std.proofs.Common.{map}
use Rattle.std.specs.List.{range_with_len}
use Rattle.std.proofs.lemmas.List.{append-nil}

-- one more value of a function
pub value_more : {X : Type 0} (f : ℕ → X) (k until : ℕ) (x : X) (before after whole : List X) → k < until → x ≡ f k
    → after ≡ before ++ x ∷ [] → before ++ map f (range_with_len k (until - k)) ≡ whole
    → after ++ map f (range_with_len (k + 1) (until - (k + 1))) ≡ whole
value_more f k until x before after whole within is grown so_far =
    let count : until - k ≡ suc (until - (k + 1)) = omega arith in
    let rest = map f (range_with_len (k + 1) (until - (k + 1))) in
    ap (λ t. t ++ rest) grown
    ∙ (append_assoc before (x ∷ []) rest
    ∙ (ap (λ y. before ++ y ∷ rest) is ∙ (ap (λ (n : ℕ). before ++ map f (range_with_len k n)) (sym count) ∙ so_far)))

pub values_at_last : {X : Type 0} (f : ℕ → X) (k until : ℕ) (before whole : List X) → until ≤ k
    → before ++ map f (range_with_len k (until - k)) ≡ whole → before ≡ whole
values_at_last f k until before whole over so_far =
    let none : until - k ≡ 0 = omega (arith, over) in
    sym (append-nil before)
    ∙ (ap (λ (n : ℕ). before ++ map f (range_with_len k n)) (sym none) ∙ so_far)
