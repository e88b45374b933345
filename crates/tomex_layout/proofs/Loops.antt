-- The results of loops, one turn later.
use Rattle.std.proofs.Common.{◌≡◌, ◌∙◌, ap, ap₂, sym, arith, ℕ, suc, ◌+◌, ◌-◌, ◌<◌, List, [], ◌∷◌, ◌++◌}
use Rattle.std.proofs.Common.{append_assoc, drop, get_or, length, map, take}
use Rattle.std.specs.List.{flat_map, range_with_len}
use Rattle.std.proofs.lemmas.Grind.{flat_map-append}
use Rattle.std.proofs.lemmas.List.{append-nil, at_drop_more, map-append, take_more}

-- what one more number adds
pub number_more : {X : Type 0} (f : ℕ → List X) (k until : ℕ) (before after whole : List X) → k < until
    → after ≡ before ++ f k → before ++ flat_map f (range_with_len k (until - k)) ≡ whole
    → after ++ flat_map f (range_with_len (k + 1) (until - (k + 1))) ≡ whole
number_more f k until before after whole within grown so_far =
    let e : until - k ≡ suc (until - (k + 1)) = omega arith in
    let rest = flat_map f (range_with_len (k + 1) (until - (k + 1))) in
    ap (λ t. t ++ rest) grown
    ∙ (append_assoc before (f k) rest
    ∙ (ap (λ (n : ℕ). before ++ flat_map f (range_with_len k n)) (sym e) ∙ so_far))

-- what one more item gives, if the items to come are counted
pub item_more : {X Y : Type 0} (f : X → Y) (xs : List X) (k : ℕ) (d : X) (y : Y) (before after whole : List Y)
    → k < length xs → after ≡ before ++ y ∷ [] → y ≡ f (get_or xs k d) → before ++ map f (drop k xs) ≡ whole
    → after ++ map f (drop (k + 1) xs) ≡ whole
item_more {Y = Y} f xs k d y before after whole low grown own so_far =
    let rest : List Y = map f (drop (k + 1) xs) in
    ap (λ (ys : List Y). ys ++ rest) (grown ∙ ap (λ (z : Y). before ++ z ∷ []) own)
    ∙ (append_assoc before (f (get_or xs k d) ∷ []) rest
    ∙ (ap (λ (ys : List Y). before ++ ys) (sym (at_drop_more (map f) xs k d low)) ∙ so_far))

-- and if the items so far are counted
pub item_pushed : {X Y : Type 0} (f : X → Y) (xs : List X) (k : ℕ) (d : X) (y : Y) (before after : List Y)
    → k < length xs → before ≡ map f (take k xs) → y ≡ f (get_or xs k d) → after ≡ before ++ y ∷ []
    → after ≡ map f (take (k + 1) xs)
item_pushed f xs k d y before after within so_far own grown =
    grown ∙ (ap₂ (λ (ys : List _) (z : _). ys ++ z ∷ []) so_far own
    ∙ (sym (map-append f (take k xs) (get_or xs k d ∷ [])) ∙ ap (map f) (sym (take_more xs k d within))))

-- several for one item, after what there was first
pub items_pushed : {X Y : Type 0} (f : X → List Y) (xs : List X) (k : ℕ) (d : X) (first before after : List Y)
    → k < length xs → before ≡ first ++ flat_map f (take k xs) → after ≡ before ++ f (get_or xs k d)
    → after ≡ first ++ flat_map f (take (k + 1) xs)
items_pushed f xs k d first before after within so_far grown =
    let x = get_or xs k d in
    let more : flat_map f (take (k + 1) xs) ≡ flat_map f (take k xs) ++ f x =
    ap (flat_map f) (take_more xs k d within)
    ∙ (flat_map-append f (take k xs) (x ∷ [])
    ∙ ap (λ (ys : List _). flat_map f (take k xs) ++ ys) (append-nil (f x))) in
    grown ∙ (ap (λ (ys : List _). ys ++ f x) so_far
    ∙ (append_assoc first (flat_map f (take k xs)) (f x) ∙ ap (λ (ys : List _). first ++ ys) (sym more)))
