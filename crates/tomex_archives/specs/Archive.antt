-- Text archives, in the form of the txtar files of Go's tools: lines of comment, and then parts, each a header line
-- `-- NAME --` and the lines up to the next header.

use Rattle.std.specs.Prelude.{◌≡◌, ◌++◌, ℕ, List, [], ◌∷◌, codes}
use Rattle.tomex_archives.specs.declared.archive.Part.{Part}

-- The header line of a name.
abbrev pub header : List ℕ → List ℕ
header name = codes "-- " ++ name ++ codes " --\n"

-- A part's header, and its lines.
abbrev pub part_text : Part → List ℕ
part_text part = header part.name.now ++ part.lines.now

-- The parts, one after the other.
abbrev pub parts_text : List Part → List ℕ
parts_text [] = []
parts_text (part ∷ parts) = part_text part ++ parts_text parts

-- A text that is a comment and these parts.
abbrev pub IsArchive : List ℕ → List Part → Type 0
IsArchive text parts = (comment : List ℕ) × (text ≡ comment ++ parts_text parts)
