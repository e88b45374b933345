-- What the words of a text stand for: their definitions, in the order of the text.
use Rattle.std.specs.Prelude.{ℕ, List, map, filter, Bool}
use Rattle.std.specs.Str.{bytes_eq}
use Rattle.tomex_asm_numbers.specs.declared.number.Number.{Number}

-- a word, and the number that it stands for; is it a label, and not a name of `.equ`?
pub record Definition : Type 0 where
  pub word : List ℕ
  pub number : Number
  pub is_label : Bool

-- the numbers that a word stands for, in the order of the text: a name has one, and the number of local labels has more
abbrev pub numbers_of : List ℕ → List Definition → List Number
numbers_of w definitions = map (λ d. d.number) (filter (λ d. bytes_eq d.word w) definitions)
