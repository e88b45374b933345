-- The part of a line by which refusals are looked for: all the words, or the longest one that some line has.
use Rattle.std.specs.Prelude.{◌≡◌, ◌<◌, ◌≤◌, ◌⊎◌, ℕ, List, [], ◌∷◌, ◌++◌, Option, Some, None, length}
use Rattle.std.specs.Char.{is_not_whitespace, is_whitespace}
use Rattle.std.specs.List.{All, Contains}
use Rattle.std.specs.Str.{EmptyOrStartsWithPassing, NoCharPasses}
use Rattle.tomex_refusals.specs.declared.refusal.Refusal.{Refusal}
use Rattle.tomex_refusals.specs.Refusals.{HasPart, all_refusals}

-- a text is empty, or begins with white space
abbrev pub IsCut : List ℕ → Type 0
IsCut text = (more : List ℕ) × EmptyOrStartsWithPassing is_whitespace text more

-- a word has characters, and no white space
abbrev pub IsWord : List ℕ → Type 0
IsWord word = (0 < length word) × NoCharPasses is_whitespace word

-- a text's words, in its order: white space is before each, and after the last
unfoldable pub AreWords : List ℕ → List (List ℕ) → Type 0
AreWords text [] = NoCharPasses is_not_whitespace text
AreWords text (word ∷ words) = (gap : List ℕ) × (rest : List ℕ) × (text ≡ gap ++ (word ++ rest))
    × NoCharPasses is_not_whitespace gap × IsWord word × IsCut rest × AreWords rest words

-- some line of the list has the words as a part
abbrev pub IsInALine : List ℕ → Type 0
IsInALine words = (refusal : Refusal) × Contains all_refusals refusal × HasPart words refusal

-- the longest of some words that a line has, the first of several equally long ones; or no line has any
abbrev pub IsLongest : List (List ℕ) → Option (List ℕ) → Type 0
IsLongest words None = All (λ word. IsInALine word → ⊥) words
IsLongest words (Some longest) = (before : List (List ℕ)) × (after : List (List ℕ))
    × (words ≡ before ++ (longest ∷ after)) × IsInALine longest
    × All (λ word. IsInALine word → length word < length longest) before
    × All (λ word. IsInALine word → length word ≤ length longest) after

-- the part: all the words, if a line has them; else the longest word that a line has, if there is one
abbrev pub IsPart : List ℕ → Option (List ℕ) → Type 0
IsPart words part = (IsInALine words × (part ≡ Some words))
    ⊎ ((IsInALine words → ⊥) × ((each : List (List ℕ)) × AreWords words each × IsLongest each part))
