-- From a line to what it says: its labels, and its statement.
--
--     line      = {label ":"} [statement] end
--     label     = decimal number | name                   any token before a ":" is one
--     statement = mnemonic operands | directive           a word; a directive's begins with "."
use Rattle.std.specs.Prelude.{ℕ, ◌+◌, List, [], ◌∷◌, slice_index, Option, Some, None, Result, Ok}
use Rattle.std.specs.Prelude.{Bool, true, false, nat_eq, if◌then◌else◌}
use Rattle.tomex_asm_tokens.specs.declared.cause.Cause.{Cause}
use Rattle.tomex_asm_tokens.specs.declared.cause.Cause.TheVariants.{Expected, NoInstruction, NoDirective}
use Rattle.tomex_asm_tokens.specs.declared.cause.Fault.{Fault}
use Rattle.tomex_asm_tokens.specs.declared.cause.Thing.TheVariants as things
use Rattle.tomex_asm_text.specs.declared.directive.Directive.{Directive}
use Rattle.tomex_asm_text.specs.declared.mnemonic.Mnemonic.{Mnemonic}
use Rattle.tomex_asm_text.specs.declared.line.Line as lines
use Rattle.tomex_asm_tokens.specs.declared.token.Mark.TheVariants as marks
use Rattle.tomex_asm_tokens.specs.declared.token.Sort.{Sort}
use Rattle.tomex_asm_tokens.specs.declared.token.Sort.TheVariants as sorts
use Rattle.tomex_asm_tokens.specs.declared.token.Token.{Token}
use Rattle.tomex_asm_text.specs.Directives.{directive_named, directive_at, unless}
use Rattle.tomex_asm_text.specs.Instructions.{Reading, instruction_at}
use Rattle.tomex_asm_text.specs.Mnemonics.{mnemonic_named}
use Rattle.tomex_asm_text.specs.Statement.{Statement, Nothing, statement_of}
use Rattle.tomex_asm_tokens.specs.Tokens.{◌>>=◌, refused, tokens, is_mark, sort_is_word}
use Rattle.tomex_asm_text.specs.Values.{text_of, place_of, lacks, name_fault, split_at}

-- a line: its labels with their colons, the place of its statement, and the statement
pub record Line : Type 0 where
  pub labels : List Token
  pub at : ℕ
  pub statement : Statement

abbrev pub line_of : lines.Line → Line
line_of l = record { labels = l.labels.now; at = l.at; statement = statement_of l.statement }

-- Labels
abbrev pub sort_is_decimal : Sort → Bool
sort_is_decimal (sorts.Decimal n) = true
sort_is_decimal _ = false

abbrev pub label_fault : List ℕ → Token → Option Cause
label_fault line t = if sort_is_decimal t.sort then None else name_fault line t

abbrev pub two_more : Result ℕ Fault → Result ℕ Fault
two_more read = read >>= λ n. Ok (2 + n)

-- how many tokens the labels and their colons are
abbrev pub labels_from : List ℕ → List Token → Result ℕ Fault
labels_from line (t ∷ u ∷ ts) =
    if is_mark marks.Colon u then unless (label_fault line t) t (two_more (labels_from line ts)) else Ok 0
labels_from line _ = Ok 0

unfoldable pub labels_at : List ℕ → List Token → Reading (List Token)
labels_at line ts = labels_from line ts >>= split_at ts

-- Statements
abbrev pub of_mnemonic : List ℕ → Token → List Token → Option Mnemonic → Reading Statement
of_mnemonic line t ts None = refused t.from NoInstruction
of_mnemonic line t ts (Some mnemonic) = instruction_at mnemonic line ts

abbrev pub of_directive : List ℕ → Token → List Token → Option Directive → Reading Statement
of_directive line t ts None = refused t.from NoDirective
of_directive line t ts (Some directive) = directive_at directive line ts

abbrev pub of_word : List ℕ → Token → List Token → List ℕ → Reading Statement
of_word line t ts w =
    if nat_eq (slice_index w 0) 46 then of_directive line t ts (directive_named w)
    else of_mnemonic line t ts (mnemonic_named w)

unfoldable pub statement_at : List ℕ → List Token → Reading Statement
statement_at line [] = Ok (Nothing, [])
statement_at line (t ∷ ts) =
    if sort_is_word t.sort then of_word line t ts (text_of line t) else refused t.from (Expected things.Instruction)

-- nothing follows the statement
abbrev pub ended : List ℕ → Line → List Token → Result Line Fault
ended line said [] = Ok said
ended line said (t ∷ ts) = lacks line (t ∷ ts) things.EndOfLine

-- what the tokens of a line say
unfoldable pub line_from : List ℕ → List Token → Result Line Fault
line_from line ts = do
  labels ← labels_at line ts
  statement ← statement_at line labels.1
  ended line (record { labels = labels.0; at = place_of line labels.1; statement = statement.0 }) statement.1

-- what a line says
unfoldable pub line_said : List ℕ → Result Line Fault
line_said line = tokens line >>= line_from line
