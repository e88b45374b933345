-- Lines, parts and archives from their pieces.
use Rattle.std.proofs.Common.{ℕ, ◌≡◌, sym, ◌∙◌, ap, List, [], ◌∷◌, ◌++◌}
use Rattle.std.proofs.lemmas.List.{append_assoc, append-nil}
use Rattle.tomex_archives.specs.declared.archive.Part.{Part}
use Rattle.tomex_archives.specs.Archive.{header, part_text, parts_text}

-- A line from its first characters, and the rest from its last ones.
pub line-joins : (line rest name start stop : List ℕ) → line ≡ start ++ rest → rest ≡ name ++ stop
    → line ≡ start ++ name ++ stop
line-joins line rest name start stop h k = h ∙ ap (λ x. start ++ x) k ∙ sym (append_assoc start name stop)

-- A text that begins with a header.
pub part-joins : (text line after lines rest : List ℕ) (name : List ℕ) → text ≡ line ++ after → line ≡ header name
    → after ≡ lines ++ rest → text ≡ header name ++ lines ++ rest
part-joins text line after lines rest name h k m =
    h ∙ ap (λ x. x ++ after) k ∙ ap (λ x. header name ++ x) m ∙ sym (append_assoc (header name) lines rest)

-- The parts with one more.
pub parts-append : (parts : List Part) (part : Part)
    → parts_text (parts ++ part ∷ []) ≡ parts_text parts ++ part_text part
parts-append [] part = append-nil (part_text part)
parts-append (first ∷ parts) part =
    ap (λ x. part_text first ++ x) (parts-append parts part)
    ∙ sym (append_assoc (part_text first) (parts_text parts) (part_text part))

-- A text from its comment, its first parts and the rest.
abbrev pub HasParts : List ℕ → List Part → List ℕ → Type 0
HasParts text parts rest = (comment : List ℕ) × (text ≡ comment ++ (parts_text parts ++ rest))

-- No part yet.
pub parts-begin : (text : List ℕ) (parts : List Part) (comment rest : List ℕ)
    → text ≡ comment ++ rest → parts ≡ [] → HasParts text parts rest
parts-begin text parts comment rest h k = (comment, h ∙ sym (ap (λ x. comment ++ (parts_text x ++ rest)) k))

-- One part more of the rest.
pub parts-join : (text : List ℕ) (parts more : List Part) (rest : List ℕ) (part : Part) (after : List ℕ)
    → HasParts text parts rest → rest ≡ part_text part ++ after → more ≡ parts ++ part ∷ [] → HasParts text more after
parts-join text parts more rest part after (comment, h) k m = (
  comment,
  h ∙ ap (λ x. comment ++ x) (ap (λ x. parts_text parts ++ x) k
      ∙ sym (append_assoc (parts_text parts) (part_text part) after)
      ∙ ap (λ x. x ++ after) (sym (ap parts_text m ∙ parts-append parts part))),
)
