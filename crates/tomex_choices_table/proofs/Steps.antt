-- The record of one list more.
use Rattle.std.proofs.Common.{◌≡◌, ◌∙◌, ap, sym, ℕ, ◌+◌, ◌<◌, List, ◌++◌, append_assoc, drop, get_or, length}
use Rattle.std.specs.List.{flat_map}
use Rattle.std.proofs.lemmas.List.{at_drop_more}

pub record_more : {X : Type 0} (f : X → List ℕ) (xs : List X) (k : ℕ) (d : X) (before after whole : List ℕ)
    → k < length xs → after ≡ before ++ f (get_or xs k d) → before ++ flat_map f (drop k xs) ≡ whole
    → after ++ flat_map f (drop (k + 1) xs) ≡ whole
record_more f xs k d before after whole low grown so_far =
    let rest : List ℕ = flat_map f (drop (k + 1) xs) in
    ap (λ (ys : List ℕ). ys ++ rest) grown
    ∙ (append_assoc before (f (get_or xs k d)) rest
    ∙ (ap (λ (ys : List ℕ). before ++ ys) (sym (at_drop_more (flat_map f) xs k d low)) ∙ so_far))
