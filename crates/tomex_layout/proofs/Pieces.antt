-- Pieces, written one after another.
use Rattle.std.proofs.Common.{◌≡◌, ◌∙◌, ap, sym, ℕ, ◌+◌, ◌<◌, List, [], ◌∷◌, ◌++◌, append_assoc, get_or, length, take}
use Rattle.std.specs.List.{flat_map}
use Rattle.std.proofs.lemmas.List.{flat_map_more, take_more}

-- two pieces are one
pub joined : {X : Type 0} (before between after xs ys : List X) → between ≡ before ++ xs → after ≡ between ++ ys
    → after ≡ before ++ (xs ++ ys)
joined before between after xs ys d e = e ∙ (ap (λ f. f ++ ys) d ∙ append_assoc before xs ys)

-- a piece, and the ones after it
abbrev pub all_pieces : {X : Type 0} → List X → List (List X) → List X
all_pieces piece [] = piece
all_pieces piece (next ∷ others) = piece ++ all_pieces next others

-- what some pieces were added to, and what it is after the last of them
pub record IsGrown {X : Type 0} (before piece : List X) (others : List (List X)) (after : List X) : Type 0 where
  pub is : after ≡ before ++ all_pieces piece others

-- one piece, and then the others
infixr 10 ◌▸◌
pub ◌▸◌ : {X : Type 0} {before between after piece next : List X} {others : List (List X)} → between ≡ before ++ piece
    → IsGrown between next others after → IsGrown before piece (next ∷ others) after
◌▸◌ {before = before} {between = between} {after = after} {piece = piece} {next = next} {others = others} first rest =
    record { is = joined before between after piece (all_pieces next others) first rest.is }

-- the last piece
pub last_piece : {X : Type 0} {before after piece : List X} → after ≡ before ++ piece → IsGrown before piece [] after
last_piece added = record { is = added }

-- the piece of one more item
pub next_piece : {X Y : Type 0} (f : X → List Y) (xs : List X) (i : ℕ) (x d : X) (s0 s1 s2 : List Y) → i < length xs
    → x ≡ get_or xs i d
    → s1 ≡ s0 ++ flat_map f (take i xs) → s2 ≡ s1 ++ f x → s2 ≡ s0 ++ flat_map f (take (i + 1) xs)
next_piece f xs i x d s0 s1 s2 within is so_far grown =
    let more : take (i + 1) xs ≡ take i xs ++ x ∷ [] =
    take_more xs i d within ∙ ap (λ z. take i xs ++ z ∷ []) (sym is) in
    rw (more, grown, so_far) (flat_map_more f s0 (take i xs) x)
