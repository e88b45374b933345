-- Bytes that are taken piece by piece.
use Rattle.std.proofs.Common.{◌≡◌, ◌+◌, ◌-◌, ◌≤◌, ◌∙◌, ap, sym, ℕ, List, ◌++◌, length, take, drop, length-drop, Option}
use Rattle.std.proofs.Common.{Some, None, arith, append_assoc}
use Rattle.std.proofs.Math.Seq.{take-add}
use Rattle.std.proofs.lemmas.List.{take_all}
use Rattle.std.specs.Io.KnownBytes.{Appends}

-- the first w, and then the first k of all the rest, are the first w + k
pub take-then_take : (w k : ℕ) (xs : List ℕ) → take w xs ++ take k (take (length xs - w) (drop w xs)) ≡ take (w + k) xs
take-then_take w k xs =
    let short : length (drop w xs) ≤ length xs - w = omega (arith, length-drop w xs) in
    rw (take_all (length xs - w) (drop w xs) short) (sym (take-add w k xs))

-- two growths are one
pub appends_both : (old mid new : Option (List ℕ)) (xs ys : List ℕ) {zs : List ℕ} → xs ++ ys ≡ zs → Appends old mid xs
    → Appends mid new ys → Appends old new zs
appends_both None mid new xs ys e a b = tt
appends_both (Some bytes) None new xs ys e a b = absurd a
appends_both (Some bytes) (Some more) None xs ys e a b = absurd b
appends_both (Some bytes) (Some more) (Some most) xs ys e a b = b ∙ ap (λ t. t ++ ys) a ∙ append_assoc bytes xs ys
    ∙ ap (λ t. bytes ++ t) e
