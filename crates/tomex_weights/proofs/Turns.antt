-- What loops have made, one item later.
use Rattle.std.proofs.Common.{◌≡◌, subst, sym, List, [], ◌∷◌, ◌++◌, All}
use Rattle.std.proofs.lemmas.List.Elements.{All-push}

-- what holds of all items holds of all with one more
pub all_more : {X : Type 0} (P : X → Type 0) (before after : List X) (x : X) → after ≡ before ++ x ∷ [] → All P before
    → P x → All P after
all_more {X = X} P before after x grown all own =
    subst (λ (xs : List X). All P xs) (sym grown) (All-push P before x all own)
