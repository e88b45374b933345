-- From a text to its program, or to the first refusal: the first pass over all lines, then the second.
use Rattle.std.specs.Prelude.{ℕ, ◌+◌, ◌-◌, List, [], ◌∷◌, ◌++◌, Result, Ok, Err, nat_eq, if◌then◌else◌}
use Rattle.tomex_asm_tokens.specs.declared.cause.Cause.TheVariants.{NoCode}
use Rattle.tomex_asm_tokens.specs.declared.cause.Fault.{Fault}
use Rattle.tomex_asm_tokens.specs.Bare.{bare}
use Rattle.tomex_asm_tokens.specs.Characters.{newline}
use Rattle.tomex_asm_tokens.specs.Tokens.{◌>>=◌}
use Rattle.tomex_asm_text.specs.Lines.{Line, line_said}
use Rattle.tomex_asm_numbers.specs.Table.{Definition}
use Rattle.tomex_asm_places.specs.declared.position.Position.{Position}
use Rattle.tomex_asm_places.specs.Positions.{data_at}
use Rattle.tomex_asm_places.specs.Places.{State, beginning, labelled, stated}
use Rattle.tomex_asm_words.specs.declared.frame.Frame.{Frame}
use Rattle.tomex_asm_words.specs.Words.{Output, written}
use Rattle.tomex_asm.specs.declared.refusal.Refusal.{Refusal}

-- the lines of a text, with what stands of a line before the rest
abbrev pub lines_from : List ℕ → List ℕ → List (List ℕ)
lines_from line [] = line ∷ []
lines_from line (c ∷ rest) =
    if nat_eq c newline then line ∷ lines_from [] rest else lines_from (line ++ c ∷ []) rest

-- The first pass
abbrev pub placed_line : ℕ → List ℕ → State → Line → Result State Fault
placed_line base line s said = labelled line said.labels s >>= λ t. stated base line said.at t said.statement

unfoldable pub place_line : ℕ → List ℕ → State → Result State Fault
place_line base line s = line_said line >>= placed_line base line s

-- a refusal in a line; lines are numbered from 1, and a column is one more than the bytes before it
abbrev pub in_line : {A : Type 0} → ℕ → Result A Fault → Result A Refusal
in_line n (Ok x) = Ok x
in_line n (Err fault) = Err (record { line = n; at = fault.at; cause = fault.cause })

infixl 10 ◌then◌
abbrev pub ◌then◌ : {A B : Type 0} → Result A Refusal → (A → Result B Refusal) → Result B Refusal
(Ok x) then f = f x
(Err e) then f = Err e

-- the lines from the n-th on
abbrev pub place_lines : ℕ → ℕ → List (List ℕ) → State → Result State Refusal
place_lines base n [] s = Ok s
place_lines base n (line ∷ rest) s = in_line n (place_line base line s) then place_lines base (n + 1) rest

-- The second pass: `whole` is all that the text defines
pub record Both : Type 0 where
  pub state : State
  pub output : Output

abbrev pub nothing_written : Both
nothing_written = record { state = beginning; output = record { code = []; contents = []; remarks = [] } }

abbrev pub written_line : Frame → List Definition → List ℕ → Both → Line → Result Both Fault
written_line f whole line b said =
    labelled line said.labels b.state >>= λ s.
    (written f whole line s said.statement b.output >>= λ o.
    (stated f.base line said.at s said.statement >>= λ t. Ok (record { state = t; output = o })))

unfoldable pub write_line : Frame → List Definition → List ℕ → Both → Result Both Fault
write_line f whole line b = line_said line >>= written_line f whole line b

abbrev pub write_lines : Frame → List Definition → ℕ → List (List ℕ) → Both → Result Both Refusal
write_lines f whole n [] b = Ok b
write_lines f whole n (line ∷ rest) b =
    in_line n (write_line f whole line b) then write_lines f whole (n + 1) rest

-- how many lines a text has
abbrev pub count_lines : List ℕ → ℕ
count_lines [] = 1
count_lines (c ∷ rest) = (if nat_eq c newline then 1 else 0) + count_lines rest

-- where the sections are, once all lines are placed
abbrev pub frame_of : ℕ → Position → Frame
frame_of base p = record { base = base; gap = data_at base p - base }

-- a program: where its sections are and how long, what it defines, and its bytes
pub record Program : Type 0 where
  pub base : ℕ
  pub position : Position
  pub defined : List Definition
  pub output : Output

abbrev pub program : ℕ → State → Both → Program
program base s b = record { base = base; position = s.position; defined = s.defined; output = b.output }

-- a program without an instruction and without data in the text is refused in its last line
abbrev pub no_code : List ℕ → Refusal
no_code text = record { line = count_lines text; at = 0; cause = NoCode }

abbrev pub written_program : ℕ → List ℕ → State → Result Program Refusal
written_program base text s =
    if nat_eq s.position.text_size 0 then Err (no_code text)
    else (write_lines (frame_of base s.position) s.defined 1 (lines_from [] text) nothing_written
    then λ b. Ok (program base s b))

-- the program of a text whose first byte is at `base`, or its first refusal
unfoldable pub assembled : List ℕ → ℕ → Result Program Refusal
assembled text base =
    place_lines base 1 (lines_from [] (bare text)) beginning then written_program base (bare text)
