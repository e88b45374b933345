-- Laws of the pieces that pages have in common.
use Rattle.std.specs.Prelude.{◌≡◌, ◌≢◌, ◌<◌, ◌==◌, ◌&&◌, ◌⊎◌, ◌^◌, ℕ, Bool, not, true, List, [], ◌∷◌, codes}
use Rattle.std.specs.Fmt.{decimal}
use Rattle.std.specs.List.{list_all}
use Rattle.tomex_html.specs.Html.{anchor_text, changed_cell, html_char, is_new, td}
use Rattle.tomex_html.specs.declared.links.Anchor.{Anchor}
use Rattle.tomex_html.specs.declared.links.Anchor.TheVariants.{Next, Previous}

-- a cell that shows what it showed isn't marked
abbrev pub UnchangedIsUnmarked : Type 0
UnchangedIsUnmarked = (text : List ℕ) → changed_cell text text ≡ td text

-- and it is marked if it shows anything else, unless it is empty
abbrev pub ChangedIsMarked : Type 0
ChangedIsMarked = (was now : List ℕ) → was ≢ now → now ≢ [] → is_new was now ≡ true

-- no byte of markup
abbrev pub is_plain : ℕ → Bool
is_plain b = not (b == 38) && not (b == 60) && not (b == 62) && not (b == 34)

-- a reference, or no byte of markup
abbrev pub IsCharacterText : List ℕ → Type 0
IsCharacterText text =
    (text ≡ codes "&amp;") ⊎ (text ≡ codes "&lt;") ⊎ (text ≡ codes "&gt;") ⊎ (text ≡ codes "&quot;")
    ⊎ (list_all is_plain text ≡ true)

-- nothing in a name is markup: it is one such text after the other
abbrev pub NamesAreText : Type 0
NamesAreText = (c : ℕ) → IsCharacterText (html_char c)

-- an id is a letter and the number of a view: `c4` or `r4` is the view itself, `n4` and `p4` are its links
abbrev pub id_of : ℕ → ℕ → List ℕ
id_of letter view = letter ∷ decimal view

-- no two are the same
abbrev pub IdsAreApart : Type 0
IdsAreApart = (letter other view number : ℕ) → view < 2 ^ 64 → number < 2 ^ 64
    → id_of letter view ≡ id_of other number → (letter ≡ other) × (view ≡ number)

abbrev pub view_of : Anchor → ℕ
view_of (Next view) = view
view_of (Previous view) = view

-- nor are those of links
abbrev pub LinksAreApart : Type 0
LinksAreApart = (a b : Anchor) → view_of a < 2 ^ 64 → view_of b < 2 ^ 64 → anchor_text a ≡ anchor_text b → a ≡ b
