-- The first pass: where each label is, and what has to be known at once. Each line adds to what the lines above it
-- have placed and defined.
use Rattle.std.specs.Prelude.{ℕ, ◌+◌, ◌*◌, ◌%◌, List, [], ◌∷◌, ◌++◌, length, take, drop, slice_index, ◌-◌, ℤ, pos}
use Rattle.std.specs.Prelude.{Bool, true, false, nat_eq, not, ◌&&◌, Option, Some, None, Result, Ok}
use Rattle.std.specs.Prelude.{if◌then◌else◌, codes}
use Rattle.std.specs.Char.{is_ascii_digit}
use Rattle.std.specs.Str.{bytes_eq}
use Rattle.tomex_asm_tokens.specs.declared.cause.Cause.TheVariants.{DefinedTwice, BadEntry, InstructionInData}
use Rattle.tomex_asm_tokens.specs.declared.cause.Cause.TheVariants.{InstructionMisaligned, NotDefinedAbove, TooLarge}
use Rattle.tomex_asm_tokens.specs.declared.cause.Cause.TheVariants.{BadAlignment}
use Rattle.tomex_asm_tokens.specs.declared.cause.Fault.{Fault}
use Rattle.tomex_asm_tokens.specs.declared.token.Mark.TheVariants.{Colon, Comma}
use Rattle.tomex_asm_tokens.specs.declared.token.Sort.{Sort}
use Rattle.tomex_asm_tokens.specs.declared.token.Sort.TheVariants as sorts
use Rattle.tomex_asm_tokens.specs.declared.token.Token.{Token}
use Rattle.tomex_asm_tokens.specs.Tokens.{◌>>=◌, refused, is_mark}
use Rattle.tomex_asm_tokens.specs.Strings.{string_bytes}
use Rattle.tomex_asm_text.specs.declared.statement.Alignment.{Alignment}
use Rattle.tomex_asm_text.specs.declared.statement.Alignment.TheVariants.{Bytes}
use Rattle.tomex_asm_text.specs.declared.statement.Section.{Section}
use Rattle.tomex_asm_text.specs.declared.statement.Section.TheVariants as sections
use Rattle.tomex_asm_text.specs.Statement.{Statement, One, Two, LoadNumber, InSection, Align, Space, Strings}
use Rattle.tomex_asm_text.specs.Statement.{Data, Define, Common}
use Rattle.tomex_asm_text.specs.Values.{text_of}
use Rattle.tomex_asm_numbers.specs.declared.number.Number.{Number}
use Rattle.tomex_asm_numbers.specs.Numbers.{wrapped, least_value, greatest_value}
use Rattle.tomex_asm_numbers.specs.Table.{Definition, numbers_of}
use Rattle.tomex_asm_numbers.specs.Values.{Scope, constant, value_of, place_of_value}
use Rattle.tomex_asm_places.specs.declared.position.Position.{Position}
use Rattle.tomex_asm_places.specs.Positions.{largest, in_section, here, grown, padding, alignment_of, load_size}

-- where the next byte goes, and what is defined so far
pub record State : Type 0 where
  pub position : Position
  pub defined : List Definition

abbrev pub beginning : State
beginning = record { position = record { section = sections.Text; text_size = 0; data_size = 0 }; defined = [] }

-- what is known at once: what stands above
abbrev pub known : State → Scope
known s = record { above = s.defined; whole = s.defined; here = here s.position; missing = NotDefinedAbove }

abbrev pub known_constant : State → List ℕ → List Token → ℤ → ℤ → Result ℤ Fault
known_constant s line v least greatest = constant (known s) line v least greatest

-- n bytes more, of the statement at a place of the line
abbrev pub or_too_large : ℕ → Option Position → Result Position Fault
or_too_large at (Some p) = Ok p
or_too_large at None = refused at TooLarge

abbrev pub grow : ℕ → ℕ → ℕ → Position → Result Position Fault
grow base at n p = or_too_large at (grown base n p)

-- Definitions. The number of a local label can be defined again and again, a name once; a program begins in the text,
-- at a multiple of 4
abbrev pub is_entry : Option Section → ℤ → Bool
is_entry (Some sections.Text) (pos n) = nat_eq (n % 4) 0
is_entry _ z = false

abbrev pub is_there : List Number → Bool
is_there [] = false
is_there (n ∷ ns) = true

abbrev pub is_again : List ℕ → List Definition → Bool
is_again w defined = not (is_ascii_digit (slice_index w 0)) && is_there (numbers_of w defined)

abbrev pub is_bad_entry : List ℕ → Number → Bool
is_bad_entry w n = bytes_eq w (codes "_start") && not (is_entry n.section n.offset)

-- what is defined, with a word at a place of the line more
abbrev pub with_definition : ℕ → Definition → List Definition → Result (List Definition) Fault
with_definition at d defined =
    if is_again d.word defined then refused at DefinedTwice
    else (if is_bad_entry d.word d.number then refused at BadEntry
    else Ok (defined ++ d ∷ []))

abbrev pub label_here : List ℕ → Number → Token → Definition
label_here line n t = record { word = text_of line t; number = n; is_label = true }

-- the labels of a line, with their colons, from left to right
abbrev pub with_labels : List ℕ → Number → List Token → List Definition → Result (List Definition) Fault
with_labels line n [] defined = Ok defined
with_labels line n (t ∷ ts) defined =
    if is_mark Colon t then with_labels line n ts defined
    else (with_definition t.from (label_here line n t) defined >>= with_labels line n ts)

abbrev pub labelled : List ℕ → List Token → State → Result State Fault
labelled line labels s =
    with_labels line (here s.position) labels s.defined >>= λ defined.
    Ok (record { position = s.position; defined = defined })

-- Statements. Instructions are in the text, at multiples of 4
abbrev pub code_at : ℕ → ℕ → Section → Position → Result Position Fault
code_at at text_size sections.Data p = refused at InstructionInData
code_at at text_size sections.Text p = if nat_eq (text_size % 4) 0 then Ok p else refused at InstructionMisaligned

abbrev pub code : ℕ → Position → Result Position Fault
code at p = code_at at p.text_size p.section p

-- the bytes to the multiple that an alignment asks for
abbrev pub or_bad : List Token → Option ℕ → Result ℕ Fault
or_bad v (Some m) = Ok m
or_bad v None = refused (place_of_value v) BadAlignment

unfoldable pub alignment : State → List ℕ → Alignment → List Token → Result ℕ Fault
alignment s line kind v = known_constant s line v least_value greatest_value >>= λ z. or_bad v (alignment_of kind z)

-- a number of zeros
unfoldable pub space : State → List ℕ → List Token → Result ℕ Fault
space s line v = known_constant s line v (pos 0) (pos largest) >>= λ z. Ok (wrapped z)

-- what is between a string's quotes
abbrev pub inner : List ℕ → List ℕ
inner text = take (length text - 2) (drop 1 text)

abbrev pub is_string : Sort → Bool
is_string sorts.Text = true
is_string _ = false

abbrev pub zero_after : Bool → ℕ
zero_after with_zero = if with_zero then 1 else 0

-- the bytes of strings with commas between them
abbrev pub strings_size : List ℕ → Bool → List Token → ℕ
strings_size line with_zero [] = 0
strings_size line with_zero (t ∷ ts) =
    (if is_string t.sort then length (string_bytes (inner (text_of line t))) + zero_after with_zero else 0)
    + strings_size line with_zero ts

-- how many values there are, with commas between them
abbrev pub count_values : List Token → ℕ
count_values [] = 1
count_values (t ∷ ts) = (if is_mark Comma t then 1 else 0) + count_values ts

-- where the next byte goes after a statement that defines nothing
unfoldable pub moved : ℕ → List ℕ → ℕ → State → Statement → Result Position Fault
moved base line at s (One t) = code at s.position >>= grow base at 4
moved base line at s (Two t u) = code at s.position >>= grow base at 8
moved base line at s (LoadNumber rd v) = do
  p ← code at s.position
  z ← known_constant s line v least_value greatest_value
  grow base at (load_size (wrapped z)) p
moved base line at s (InSection section) = Ok (in_section section s.position)
moved base line at s (Align kind v) = do
  m ← alignment s line kind v
  grow base at (padding base s.position m) s.position
moved base line at s (Space v) = do
  n ← space s line v
  grow base at n s.position
moved base line at s (Strings with_zero ts) = grow base at (strings_size line with_zero ts) s.position
moved base line at s (Data size vs) = grow base at (size * count_values vs) s.position
moved base line at s _ = Ok s.position

-- `.comm`: in the data, aligned, the label, and zeros
unfoldable pub with_common : ℕ → List ℕ → ℕ → State → Token → List Token → List Token → Result State Fault
with_common base line at s name size v = do
  n ← space s line size
  m ← alignment s line Bytes v
  p ← grow base at (padding base (in_section sections.Data s.position) m) (in_section sections.Data s.position)
  defined ← with_definition name.from (label_here line (here p) name) s.defined
  q ← grow base at n p
  Ok (record { position = in_section s.position.section q; defined = defined })

abbrev pub definition_at : List ℕ → Token → Number → Definition
definition_at line name n = record { word = text_of line name; number = n; is_label = false }

unfoldable pub with_equ : List ℕ → State → Token → List Token → Result State Fault
with_equ line s name v = do
  n ← value_of (known s) line v
  defined ← with_definition name.from (definition_at line name n) s.defined
  Ok (record { position = s.position; defined = defined })

abbrev pub stated : ℕ → List ℕ → ℕ → State → Statement → Result State Fault
stated base line at s (Define name v) = with_equ line s name v
stated base line at s (Common name size v) = with_common base line at s name size v
stated base line at s statement =
    moved base line at s statement >>= λ p. Ok (record { position = p; defined = s.defined })
