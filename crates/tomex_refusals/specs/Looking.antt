-- How words are looked for in a text: capitals are as small letters.
use Rattle.std.specs.Prelude.{ℕ, List}
use Rattle.std.specs.Str.{str_to_ascii_lowercase}
use Rattle.std.specs.Str.Iter.{HasSubslice}

-- the words are somewhere in the text, whatever the case of their letters and its
abbrev pub HasWords : List ℕ → List ℕ → Type 0
HasWords text words = HasSubslice (str_to_ascii_lowercase text) (str_to_ascii_lowercase words)
