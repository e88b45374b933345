-- The second pass: the bytes of each statement, with all that the text defines, and what directives say of symbols.
use Rattle.std.specs.Prelude.{ℕ, ◌+◌, ◌*◌, ◌/◌, ◌%◌, List, [], ◌∷◌, ◌++◌, replicate, take, pos, Bool}
use Rattle.std.specs.Prelude.{nat_eq, Result, Ok, if◌then◌else◌, ℤ}
use Rattle.std.specs.List.{flat_map}
use Rattle.tomex_rvdec.specs.declared.op.Op.TheVariants.{Addi, Lui}
use Rattle.tomex_rvdec.specs.Instruction.{Instruction}
use Rattle.tomex_rvdec.specs.Meaning.{form_of, with_operands}
use Rattle.tomex_elf.specs.File.{word}
use Rattle.tomex_asm_tokens.specs.declared.cause.Cause.TheVariants.{Undefined}
use Rattle.tomex_asm_tokens.specs.declared.cause.Fault.{Fault}
use Rattle.tomex_asm_tokens.specs.declared.token.Mark.TheVariants.{Comma}
use Rattle.tomex_asm_tokens.specs.declared.token.Token.{Token}
use Rattle.tomex_asm_tokens.specs.Tokens.{◌>>=◌, is_mark, sort_is_word}
use Rattle.tomex_asm_tokens.specs.Strings.{string_bytes}
use Rattle.tomex_asm_text.specs.declared.statement.Alignment.TheVariants.{Bytes}
use Rattle.tomex_asm_text.specs.declared.statement.Binding.{Binding}
use Rattle.tomex_asm_text.specs.declared.statement.Section.{Section}
use Rattle.tomex_asm_text.specs.declared.statement.Section.TheVariants as sections
use Rattle.tomex_asm_text.specs.Statement.{Template, Statement, One, Two, LoadNumber, Align, Space}
use Rattle.tomex_asm_text.specs.Statement.{Strings, Data, Common, Bind, OfKind, Size}
use Rattle.tomex_asm_text.specs.Values.{text_of}
use Rattle.tomex_asm_numbers.specs.Numbers.{address_in, wrapped, high, low, least_value, greatest_value}
use Rattle.tomex_asm_numbers.specs.Table.{Definition}
use Rattle.tomex_asm_numbers.specs.Values.{Scope, constant}
use Rattle.tomex_asm_places.specs.declared.position.Position.{Position}
use Rattle.tomex_asm_places.specs.Positions.{here, in_section, is_small, offset_in, padding}
use Rattle.tomex_asm_places.specs.Places.{State, alignment, inner, is_string, known_constant, space}
use Rattle.tomex_asm_words.specs.declared.frame.Frame.{Frame}
use Rattle.tomex_asm_words.specs.declared.output.Said.{Said}
use Rattle.tomex_asm_words.specs.declared.output.Said.TheVariants.{Bound, IsOfKind, HasSize}
use Rattle.tomex_asm_words.specs.Spelling.{word_for}
use Rattle.tomex_asm_words.specs.Immediates.{immediate, datum}

-- what a directive says of a symbol
pub record Remark : Type 0 where
  pub name : List ℕ
  pub said : Said

-- the bytes of both sections, and what is said of symbols, in the order of the text
pub record Output : Type 0 where
  pub code : List ℕ
  pub contents : List ℕ
  pub remarks : List Remark

-- what the words of a statement stand for, with all that the text defines
abbrev pub scope_at : List Definition → State → Scope
scope_at whole s = record { above = s.defined; whole = whole; here = here s.position; missing = Undefined }

-- Instructions. The low byte of a word is first
abbrev pub instruction : Instruction → List ℕ
instruction x = word (word_for x)

unfoldable pub one : Frame → ℕ → Scope → List ℕ → Template → Result (List ℕ) Fault
one f pc scope line t = do
  i ← immediate f pc scope line (form_of t.op) t.immediate
  Ok (instruction (with_operands t.op t.rd t.rs1 t.rs2 i))

-- `li` of a number modulo 2 ^ 32
abbrev pub addi : ℕ → ℕ → ℕ → List ℕ
addi rd rs1 n = instruction (with_operands Addi rd rs1 0 n)

abbrev pub load_number : ℕ → ℕ → List ℕ
load_number rd v =
    if is_small v then addi rd 0 v
    else (instruction (with_operands Lui rd 0 0 (high v * 4096))
    ++ (if nat_eq (low v) 0 then [] else addi rd rd (low v)))

-- n bytes of padding: in the text `nop`s, 0x00000013, after zeros up to a multiple of 4; in the data zeros
abbrev pub nops : ℕ → List ℕ
nops n = flat_map word (replicate n 0x13)

abbrev pub pad : Section → ℕ → List ℕ
pad sections.Text n = replicate (n % 4) 0 ++ nops (n / 4)
pad sections.Data n = replicate n 0

-- Data. Strings, with commas between them
abbrev pub strings : List ℕ → Bool → List Token → List ℕ
strings line with_zero [] = []
strings line with_zero (t ∷ ts) =
    (if is_string t.sort then string_bytes (inner (text_of line t)) ++ replicate (if with_zero then 1 else 0) 0 else [])
    ++ strings line with_zero ts

-- the scope of the number of a list before which there are k bytes of the list: `.` is its own place
abbrev pub scope_after : ℕ → Position → Scope → Scope
scope_after k p scope = record {
  above = scope.above;
  whole = scope.whole;
  here = address_in p.section (pos (offset_in p.section p + k));
  missing = scope.missing;
}

-- the bytes of a number, the low one first
abbrev pub number : ℕ → Result ℤ Fault → Result (List ℕ) Fault
number size read = read >>= λ z. Ok (take size (word (wrapped z)))

-- bytes, and those after them
abbrev pub joined : List ℕ → Result (List ℕ) Fault → Result (List ℕ) Fault
joined front read = read >>= λ rest. Ok (front ++ rest)

abbrev pub value_at : Frame → Position → Scope → List ℕ → ℕ → ℕ → List Token → Result (List ℕ) Fault
value_at f p scope line size k v = number size (datum f (scope_after k p scope) line size v)

-- the bytes of values with commas between them: v is what stands of a value before the rest, and k bytes are before it
abbrev pub values_from : Frame → Position → Scope → List ℕ → ℕ → ℕ → List Token → List Token → Result (List ℕ) Fault
values_from f p scope line size k v [] = value_at f p scope line size k v
values_from f p scope line size k v (t ∷ ts) =
    if is_mark Comma t
    then (value_at f p scope line size k v >>= λ front.
    joined front (values_from f p scope line size (k + size) [] ts))
    else values_from f p scope line size k (v ++ t ∷ []) ts

-- the bytes of a statement, where s is the state before it
unfoldable pub bytes_of : Frame → List Definition → List ℕ → State → Statement → Result (List ℕ) Fault
bytes_of f whole line s (One t) = one f s.position.text_size (scope_at whole s) line t
bytes_of f whole line s (Two t u) = do
  first ← one f s.position.text_size (scope_at whole s) line t
  joined first (one f s.position.text_size (scope_at whole s) line u)
bytes_of f whole line s (LoadNumber rd v) = do
  z ← known_constant s line v least_value greatest_value
  Ok (load_number rd (wrapped z))
bytes_of f whole line s (Align kind v) = do
  m ← alignment s line kind v
  Ok (pad s.position.section (padding f.base s.position m))
bytes_of f whole line s (Space v) = do
  n ← space s line v
  Ok (replicate n 0)
bytes_of f whole line s (Strings with_zero ts) = Ok (strings line with_zero ts)
bytes_of f whole line s (Data size vs) =
    values_from f s.position (scope_at whole s) line size 0 [] vs
bytes_of f whole line s _ = Ok []

-- the bytes of `.comm`
unfoldable pub common : Frame → List ℕ → State → List Token → List Token → Result (List ℕ) Fault
common f line s size v = do
  n ← space s line size
  m ← alignment s line Bytes v
  Ok (replicate (padding f.base (in_section sections.Data s.position) m + n) 0)

-- Remarks
abbrev pub remark : List ℕ → Token → Said → Remark
remark line t said = record { name = text_of line t; said = said }

abbrev pub bound : List ℕ → Binding → List Token → List Remark
bound line binding [] = []
bound line binding (t ∷ ts) =
    if sort_is_word t.sort then remark line t (Bound binding) ∷ bound line binding ts else bound line binding ts

unfoldable pub remarks_of : List Definition → List ℕ → State → Statement → Result (List Remark) Fault
remarks_of whole line s (Bind binding names) = Ok (bound line binding names)
remarks_of whole line s (OfKind name kind) = Ok (remark line name (IsOfKind kind) ∷ [])
remarks_of whole line s (Size name v) = do
  z ← constant (scope_at whole s) line v (pos 0) greatest_value
  Ok (remark line name (HasSize (wrapped z)) ∷ [])
remarks_of whole line s _ = Ok []

-- remarks, and those after them
abbrev pub after_remarks : List Remark → Result (List Remark) Fault → Result (List Remark) Fault
after_remarks front read = read >>= λ more. Ok (front ++ more)

-- what is written after a statement
abbrev pub with_bytes : Section → List ℕ → Output → Output
with_bytes sections.Text bytes o =
    record { code = o.code ++ bytes; contents = o.contents; remarks = o.remarks }
with_bytes sections.Data bytes o =
    record { code = o.code; contents = o.contents ++ bytes; remarks = o.remarks }

abbrev pub with_remarks : List Remark → Output → Output
with_remarks more o = record { code = o.code; contents = o.contents; remarks = o.remarks ++ more }

abbrev pub section_of : State → Statement → Section
section_of s (Common name size v) = sections.Data
section_of s _ = s.position.section

abbrev pub all_bytes_of : Frame → List Definition → List ℕ → State → Statement → Result (List ℕ) Fault
all_bytes_of f whole line s (Common name size v) = common f line s size v
all_bytes_of f whole line s statement = bytes_of f whole line s statement

unfoldable pub written : Frame → List Definition → List ℕ → State → Statement → Output → Result Output Fault
written f whole line s statement o = do
  bytes ← all_bytes_of f whole line s statement
  more ← remarks_of whole line s statement
  Ok (with_remarks more (with_bytes (section_of s statement) bytes o))
