-- Ids of views and links are apart.
use Rattle.std.proofs.Common.{◌≡◌, ℕ, List, ◌∷◌, ap, arith}
use Rattle.std.specs.Fmt.{decimal}
use Rattle.std.proofs.lemmas.Fmt.{decimal_injective}
use Rattle.tomex_html.specs.declared.links.Anchor.TheVariants.{Next, Previous}
use Rattle.tomex_html.specs.Laws.{IdsAreApart, LinksAreApart}

parts_same : (x y : ℕ) (xs ys : List ℕ) → x ∷ xs ≡ y ∷ ys → (x ≡ y) × (xs ≡ ys)
parts_same x y xs ys same = (cc, cc)

pub ids_are_apart : IdsAreApart
ids_are_apart letter other view number few less same =
    let parts = parts_same letter other (decimal view) (decimal number) same in
    (parts.0, decimal_injective view number few less parts.1)

pub links_are_apart : LinksAreApart
links_are_apart (Next v) (Next w) few less same = ap Next (ids_are_apart 110 110 v w few less same).1
links_are_apart (Previous v) (Previous w) few less same = ap Previous (ids_are_apart 112 112 v w few less same).1
links_are_apart (Next v) (Previous w) few less same =
    let letters = (ids_are_apart 110 112 v w few less same).0 in
    absurd (omega arith)
links_are_apart (Previous v) (Next w) few less same =
    let letters = (ids_are_apart 112 110 v w few less same).0 in
    absurd (omega arith)
