-- The directives that compilers print, and what each says.
use Rattle.std.specs.Prelude.{ℕ, ◌-◌, List, [], ◌∷◌, length, take, drop, slice_index, Option, Some, None, Result, Ok}
use Rattle.std.specs.Prelude.{Bool, true, false, nat_eq, ◌&&◌, ◌||◌, if◌then◌else◌, codes}
use Rattle.std.specs.Str.{bytes_eq}
use Rattle.tomex_asm_tokens.specs.declared.cause.Cause.{Cause}
use Rattle.tomex_asm_tokens.specs.declared.cause.Cause.TheVariants.{Expected, NoSection}
use Rattle.tomex_asm_tokens.specs.declared.cause.Fault.{Fault}
use Rattle.tomex_asm_tokens.specs.declared.cause.Thing.TheVariants as things
use Rattle.tomex_asm_text.specs.declared.directive.Directive.{Directive}
use Rattle.tomex_asm_text.specs.declared.directive.Directive.TheVariants as directives
use Rattle.tomex_asm_text.specs.declared.list.Element.{Element}
use Rattle.tomex_asm_text.specs.declared.list.Element.TheVariants as elements
use Rattle.tomex_asm_text.specs.declared.statement.Section.{Section}
use Rattle.tomex_asm_text.specs.declared.statement.Section.TheVariants as sections
use Rattle.tomex_asm_text.specs.declared.statement.Alignment.TheVariants as alignments
use Rattle.tomex_asm_text.specs.declared.statement.Binding.TheVariants as bindings
use Rattle.tomex_asm_text.specs.declared.statement.Kind.{Kind}
use Rattle.tomex_asm_text.specs.declared.statement.Kind.TheVariants as kinds
use Rattle.tomex_asm_tokens.specs.declared.token.Mark.TheVariants as marks
use Rattle.tomex_asm_tokens.specs.declared.token.Sort.{Sort}
use Rattle.tomex_asm_tokens.specs.declared.token.Sort.TheVariants as sorts
use Rattle.tomex_asm_tokens.specs.declared.token.Token.{Token}
use Rattle.tomex_asm_text.specs.Instructions.{Reading, comma_at, next_value}
use Rattle.tomex_asm_tokens.specs.Registers.{named}
use Rattle.tomex_asm_text.specs.Statement.{Statement, Nothing, InSection, Align, Space, Strings, Data, Define, Common}
use Rattle.tomex_asm_text.specs.Statement.{Bind, OfKind, Size}
use Rattle.tomex_asm_tokens.specs.Tokens.{◌>>=◌, refused, is_mark, sort_is_word}
use Rattle.tomex_asm_text.specs.Values.{text_of, lacks, begins_mark, name_fault, name_at, value_at}
use Rattle.tomex_asm_text.specs.Values.{values_at, one_more, split_at}

abbrev pub directive_names : List (List ℕ × Directive)
directive_names =
    (codes ".text", directives.InSection sections.Text)
    ∷ (codes ".data", directives.InSection sections.Data)
    ∷ (codes ".bss", directives.InSection sections.Data)
    ∷ (codes ".section", directives.Section)
    ∷ (codes ".globl", directives.Bind bindings.Global)
    ∷ (codes ".global", directives.Bind bindings.Global)
    ∷ (codes ".weak", directives.Bind bindings.Weak)
    ∷ (codes ".type", directives.OfKind)
    ∷ (codes ".size", directives.Size)
    ∷ (codes ".equ", directives.Define)
    ∷ (codes ".set", directives.Define)
    ∷ (codes ".comm", directives.Common)
    ∷ (codes ".word", directives.Data 4)
    ∷ (codes ".half", directives.Data 2)
    ∷ (codes ".byte", directives.Data 1)
    ∷ (codes ".ascii", directives.Strings false)
    ∷ (codes ".asciz", directives.Strings true)
    ∷ (codes ".string", directives.Strings true)
    ∷ (codes ".zero", directives.Space)
    ∷ (codes ".space", directives.Space)
    ∷ (codes ".align", directives.Align alignments.Power)
    ∷ (codes ".p2align", directives.Align alignments.Power)
    ∷ (codes ".balign", directives.Align alignments.Bytes)
    ∷ (codes ".file", directives.Ignored)
    ∷ (codes ".ident", directives.Ignored)
    ∷ (codes ".attribute", directives.Ignored)
    ∷ (codes ".option", directives.Ignored)
    ∷ (codes ".local", directives.Ignored)
    ∷ (codes ".addrsig", directives.Ignored)
    ∷ (codes ".addrsig_sym", directives.Ignored)
    ∷ []

-- the first of the bytes are these
abbrev pub begins_text : List ℕ → List ℕ → Bool
begins_text front w = bytes_eq front (take (length front) w)

-- the directive with this name
unfoldable pub directive_named : List ℕ → Option Directive
directive_named w = if begins_text (codes ".cfi_") w then Some directives.Ignored else named directive_names w

-- the name, or the name with a `.` and more after it
abbrev pub is_part_of : List ℕ → List ℕ → Bool
is_part_of w name = begins_text name w && (nat_eq (length w) (length name) || nat_eq (slice_index w (length name)) 46)

-- sections by the first part of their names
abbrev pub section_names : List (List ℕ × Section)
section_names =
    (codes ".text", sections.Text)
    ∷ (codes ".data", sections.Data)
    ∷ (codes ".rodata", sections.Data)
    ∷ (codes ".bss", sections.Data)
    ∷ (codes ".sdata", sections.Data)
    ∷ (codes ".srodata", sections.Data)
    ∷ (codes ".sbss", sections.Data)
    ∷ (codes ".note", sections.Data)
    ∷ []

abbrev pub section_in : List (List ℕ × Section) → List ℕ → Option Section
section_in [] w = None
section_in (row ∷ rows) w = if is_part_of w row.0 then Some row.1 else section_in rows w

unfoldable pub section_named : List ℕ → Option Section
section_named w = section_in section_names w

-- the name of a section: a word, or what is between the quotes of a string
abbrev pub section_name : Sort → List ℕ → Option (List ℕ)
section_name sorts.Word text = Some text
section_name sorts.Text text = Some (take (length text - 2) (drop 1 text))
section_name _ text = None

abbrev pub found_section : Token → Option Section → Reading Statement
found_section t None = refused t.from NoSection
found_section t (Some section) = Ok (InSection section, [])

abbrev pub section_of_name : Token → Option (List ℕ) → Reading Statement
section_of_name t None = refused t.from (Expected things.Name)
section_of_name t (Some name) = found_section t (section_named name)

-- NAME, and anything
unfoldable pub section_at : List ℕ → List Token → Reading Statement
section_at line [] = lacks line [] things.Name
section_at line (t ∷ ts) = section_of_name t (section_name t.sort (text_of line t))

-- Lists of names or of strings, with commas between them
abbrev pub sort_is_text : Sort → Bool
sort_is_text sorts.Text = true
sort_is_text _ = false

abbrev pub element_fault : Element → List ℕ → Token → Option Cause
element_fault elements.Name line t = name_fault line t
element_fault elements.Text line t = if sort_is_text t.sort then None else Some (Expected things.Text)

abbrev pub element_end : Element → List ℕ → Result ℕ Fault
element_end elements.Name line = lacks line [] things.Name
element_end elements.Text line = lacks line [] things.Text

abbrev pub unless : Option Cause → Token → Result ℕ Fault → Result ℕ Fault
unless None t read = read
unless (Some cause) t read = refused t.from cause

-- how many tokens the list takes, where an element comes next, or has come
abbrev pub elements_from : Element → List ℕ → Bool → List Token → Result ℕ Fault
elements_from element line false [] = element_end element line
elements_from element line true [] = Ok 0
elements_from element line false (t ∷ ts) =
    unless (element_fault element line t) t (one_more (elements_from element line true ts))
elements_from element line true (t ∷ ts) =
    if is_mark marks.Comma t then one_more (elements_from element line false ts) else Ok 0

unfoldable pub elements_at : Element → List ℕ → List Token → Reading (List Token)
elements_at element line ts = elements_from element line false ts >>= split_at ts

-- @function or @object
abbrev pub found_kind : List ℕ → Token → List Token → Option Kind → Reading Statement
found_kind line name ts None = lacks line ts things.Type
found_kind line name ts (Some kind) = Ok (OfKind name kind, drop 1 ts)

abbrev pub kind_names : List (List ℕ × Kind)
kind_names = (codes "function", kinds.Function) ∷ (codes "object", kinds.Object) ∷ []

abbrev pub kind_of : List ℕ → List Token → Option Kind
kind_of line [] = None
kind_of line (t ∷ ts) = if sort_is_word t.sort then named kind_names (text_of line t) else None

unfoldable pub kind_after : List ℕ → Token → List Token → Reading Statement
kind_after line name ts =
    if begins_mark marks.At ts then found_kind line name (drop 1 ts) (kind_of line (drop 1 ts))
    else lacks line ts things.Type

-- N, and that
unfoldable pub kind_at : List ℕ → List Token → Reading Statement
kind_at line ts = do
  name ← name_at line ts
  rest ← comma_at line name.1
  kind_after line name.0 rest

-- N,v
unfoldable pub name_and_value : List ℕ → List Token → Reading (Token × List Token)
name_and_value line ts = do
  name ← name_at line ts
  v ← next_value line name.1
  Ok ((name.0, v.0), v.1)

-- N,v,v
unfoldable pub common_at : List ℕ → List Token → Reading Statement
common_at line ts = do
  size ← name_and_value line ts
  alignment ← next_value line size.1
  Ok (Common size.0.0 size.0.1 alignment.0, alignment.1)

-- what a directive says
abbrev pub directive_at : Directive → List ℕ → List Token → Reading Statement
directive_at (directives.InSection section) line ts = Ok (InSection section, ts)
directive_at directives.Section line ts = section_at line ts
directive_at (directives.Bind binding) line ts = elements_at elements.Name line ts >>= λ x. Ok (Bind binding x.0, x.1)
directive_at directives.OfKind line ts = kind_at line ts
directive_at directives.Size line ts = name_and_value line ts >>= λ x. Ok (Size x.0.0 x.0.1, x.1)
directive_at directives.Define line ts = name_and_value line ts >>= λ x. Ok (Define x.0.0 x.0.1, x.1)
directive_at directives.Common line ts = common_at line ts
directive_at (directives.Data size) line ts = values_at line ts >>= λ x. Ok (Data size x.0, x.1)
directive_at (directives.Strings with_zero) line ts =
    elements_at elements.Text line ts >>= λ x. Ok (Strings with_zero x.0, x.1)
directive_at directives.Space line ts = value_at line ts >>= λ x. Ok (Space x.0, x.1)
directive_at (directives.Align alignment) line ts = value_at line ts >>= λ x. Ok (Align alignment x.0, x.1)
directive_at directives.Ignored line ts = Ok (Nothing, [])
