-- The results of loops, one turn later.
use Rattle.std.proofs.Common.{◌≡◌, ◌∙◌, ap, sym, add-one, arith, ℕ, zero, suc, ◌+◌, ◌<◌, List, [], ◌∷◌, ◌++◌}
use Rattle.std.proofs.Common.{append_assoc, drop, get_or, length, map}

-- the results for the items from one on
map_drop : {X Y : Type 0} (f : X → Y) (xs : List X) (k : ℕ) (x : X) → k < length xs → x ≡ get_or xs k x
    → map f (drop k xs) ≡ f x ∷ map f (drop (suc k) xs)
map_drop f [] k x within is = absurd (omega (arith, within))
map_drop f (y ∷ ys) zero x within is = ap (λ z. f z ∷ map f ys) (sym is)
map_drop f (y ∷ ys) (suc k) x within is = map_drop f ys k x (omega (arith, within)) is

-- one more item
pub item_more : {X Y : Type 0} (f : X → Y) (xs : List X) (k : ℕ) (x : X) (before after whole : List Y) (y : Y)
    → k < length xs → x ≡ get_or xs k x → after ≡ before ++ y ∷ [] → y ≡ f x
    → before ++ map f (drop k xs) ≡ whole → after ++ map f (drop (k + 1) xs) ≡ whole
item_more f xs k x before after whole y within is grown made so_far =
    rw (add-one, grown, made) (append_assoc before (f x ∷ []) (map f (drop (suc k) xs))
    ∙ (ap (λ z. before ++ z) (sym (map_drop f xs k x within is)) ∙ so_far))
