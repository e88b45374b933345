-- The values of a line, by the rows of what `clap` is specified to find in its words.
use Rattle.std.specs.Prelude.{◌≡◌, ◌≤◌, ℕ, Bool, true, false, List, [], codes, Option, Some, None, Ok, option_map}
use Rattle.std.specs.Prelude.{unwrap_or}
use Rattle.std.specs.List.{join_by}
use Rattle.std.specs.Str.Parse.{ParsesUnsigned}
use Rattle.std.specs.declared.num.ParseIntError.{ParseIntError}
use Rattle.clap.specs.Words.{Row, Text, all_of, first_of, one_of}

-- the word that was found for an argument
abbrev pub IsWord : List Row → Text → List ℕ → Type 0
IsWord rows name word = first_of name rows ≡ Some word

-- words, with a space between each two
abbrev pub words_text : List Text → Text
words_text = join_by (λ (word : Text). word) (codes " ")

-- all words that were found for an argument
abbrev pub AreWords : List Row → Text → Option Text → Type 0
AreWords rows name words = words ≡ option_map words_text (all_of name rows)

-- these words were found for an argument, or there are none
abbrev pub AreEach : List Row → Text → List Text → Type 0
AreEach rows name words = words ≡ unwrap_or (all_of name rows) []

-- the number that was found for an argument, or its default: in decimal, and within these bounds
abbrev pub IsNumber : List Row → Text → ℕ → ℕ → ℕ → Type 0
IsNumber rows name least greatest number =
    (text : Text) × (one_of name rows ≡ Some text) × ParsesUnsigned {E = ParseIntError} 64 10 text (Ok number)
    × (least ≤ number) × (number ≤ greatest)

-- a flag was found or not: `clap` keeps its value as a text, which is `false` if it wasn't given
pub record IsFlag (rows : List Row) (name : Text) (given : Bool) : Type 0 where
  pub yes : one_of name rows ≡ Some (codes "true") → given ≡ true
  pub no : one_of name rows ≡ Some (codes "false") → given ≡ false
  pub none : one_of name rows ≡ None → given ≡ false
