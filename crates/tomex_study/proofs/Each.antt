-- What is known about the elements so far, with one more, and about all.
use Rattle.std.proofs.Common.{◌≡◌, ◌+◌, ◌++◌, ◌<◌, ◌≤◌, ◌∙◌, ◌∷◌, [], ℕ, List, All, ap, length, map, sym, take, get_or}
use Rattle.std.proofs.lemmas.List.{map_more, take_all}
use Rattle.std.proofs.lemmas.List.Elements.{All-more}

pub one_more : {X : Type 0} (P : X → Type 0) (xs : List X) (i : ℕ) (x : X) → i < length xs → All P (take i xs)
    → x ≡ get_or xs i x → P x → All P (take (i + 1) xs)
one_more P xs i x lt each is holds = All-more P xs i x lt each (rw (← is) holds)

pub all_of : {X : Type 0} (P : X → Type 0) (xs : List X) (i : ℕ) → length xs ≤ i → All P (take i xs) → All P xs
all_of P xs i le each = let whole : take i xs ≡ xs = take_all i xs le in rw whole at each

pub one_mapped : {X Y : Type 0} (f : X → Y) (xs : List X) (i : ℕ) (x : X) (y : Y) (before after : List Y)
    → i < length xs
    → after ≡ before ++ y ∷ [] → y ≡ f x → x ≡ get_or xs i x → before ≡ map f (take i xs)
    → after ≡ map f (take (i + 1) xs)
one_mapped f xs i x y before after lt is one at so_far =
    is ∙ (ap (λ l. l ++ y ∷ []) so_far
    ∙ (ap (λ z. map f (take i xs) ++ z ∷ []) (one ∙ ap f at) ∙ sym (map_more f xs i x lt)))
