-- Lists of workers that are started and joined one after another.
use Rattle.std.proofs.Common.{◌≡◌, List, [], ◌∷◌, ◌++◌, map, ap, ◌∙◌, sym, append_assoc, length, arith}
use Rattle.std.proofs.lemmas.List.{map-append, append-nil}

-- one more item on one side, and one fewer on the other
pub moved : {X Y Z : Type 0} (f : X → Z) (g : Y → Z) (xs all : List X) (x : X) (ys rest : List Y) (y : Y)
    (goal : List Z) → all ≡ xs ++ x ∷ [] → rest ≡ y ∷ ys → f x ≡ g y → map f xs ++ map g rest ≡ goal → map f all
    ++ map g ys ≡ goal
moved f g xs all x ys rest y goal pushed step same h =
    ap (λ l. map f l ++ map g ys) pushed
    ∙ (ap (λ l. l ++ map g ys) (map-append f xs (x ∷ []))
    ∙ (append_assoc (map f xs) (f x ∷ []) (map g ys)
    ∙ (ap (λ a. map f xs ++ a ∷ map g ys) same
    ∙ (ap (λ l. map f xs ++ map g l) (sym step) ∙ h))))

-- nothing is left on the other side
pub ended : {Y Z : Type 0} (g : Y → Z) (xs : List Z) (rest : List Y) (goal : List Z) → length rest ≡ 0 → xs
    ++ map g rest ≡ goal → xs ≡ goal
ended g xs [] goal none h = sym (append-nil xs) ∙ h
ended g xs (y ∷ ys) goal none h = absurd (omega arith)

-- nothing is on one side yet
pub begun : {X Y Z : Type 0} (f : X → Z) (g : Y → Z) (xs : List X) (rest all : List Y) → xs ≡ [] → rest ≡ all
    → map f xs ++ map g rest ≡ map g all
begun f g xs rest all none same = ap (λ l. map f l ++ map g rest) none ∙ ap (map g) same
