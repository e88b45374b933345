-- The file of a program: an ELF executable of 32 bits with its memory, five sections and its symbols (System V ABI,
-- "Sections", "Symbol Table" and "String Table"). Numbers are of 32 bits, modulo 2 ^ 32.
use Rattle.std.specs.Prelude.{ℕ, ◌+◌, ◌-◌, ◌*◌, ◌%◌, ◌^◌, List, [], ◌∷◌, ◌++◌, length, replicate, slice_index, take}
use Rattle.std.specs.Prelude.{codes}
use Rattle.std.specs.Prelude.{Bool, true, false, is_some, not, ◌&&◌, Option, Some, None, if◌then◌else◌}
use Rattle.std.specs.Char.{is_ascii_digit}
use Rattle.std.specs.Str.{bytes_eq}
use Rattle.tomex_elf.specs.declared.file.SectionTable.{SectionTable}
use Rattle.tomex_elf.specs.File.{half, headers, words}
use Rattle.tomex_asm_text.specs.declared.statement.Binding.{Binding}
use Rattle.tomex_asm_text.specs.declared.statement.Binding.TheVariants.{Global, Weak}
use Rattle.tomex_asm_text.specs.declared.statement.Kind.{Kind}
use Rattle.tomex_asm_text.specs.declared.statement.Kind.TheVariants.{Function, Object}
use Rattle.tomex_asm_text.specs.declared.statement.Section.{Section}
use Rattle.tomex_asm_text.specs.declared.statement.Section.TheVariants.{Text, Data}
use Rattle.tomex_asm_numbers.specs.Table.{Definition}
use Rattle.tomex_asm_places.specs.Positions.{end_of}
use Rattle.tomex_asm_words.specs.declared.frame.Frame.{Frame}
use Rattle.tomex_asm_words.specs.declared.output.Said.{Said}
use Rattle.tomex_asm_words.specs.declared.output.Said.TheVariants.{Bound, IsOfKind, HasSize}
use Rattle.tomex_asm_words.specs.Immediates.{word_in}
use Rattle.tomex_asm_words.specs.Words.{Remark}
use Rattle.tomex_asm.specs.declared.attributes.Attributes.{Attributes}
use Rattle.tomex_asm.specs.Assembled.{Program, frame_of}

-- What directives say of a symbol. Weak wins over global; of kinds and of sizes the last one counts
abbrev pub nothing_said : Attributes
nothing_said = record { binding = None; kind = None; size = 0 }

abbrev pub stronger : Option Binding → Binding → Option Binding
stronger (Some Weak) binding = Some Weak
stronger _ binding = Some binding

abbrev pub noted : Attributes → Said → Attributes
noted a (Bound binding) = record { binding = stronger a.binding binding; kind = a.kind; size = a.size }
noted a (IsOfKind kind) = record { binding = a.binding; kind = Some kind; size = a.size }
noted a (HasSize size) = record { binding = a.binding; kind = a.kind; size = size }

abbrev pub noted_if : List ℕ → Attributes → Remark → Attributes
noted_if w a r = if bytes_eq r.name w then noted a r.said else a

abbrev pub attributes_from : List ℕ → Attributes → List Remark → Attributes
attributes_from w a [] = a
attributes_from w a (r ∷ rs) = attributes_from w (noted_if w a r) rs

abbrev pub attributes_of : List ℕ → List Remark → Attributes
attributes_of w remarks = attributes_from w nothing_said remarks

-- Symbols: labels with a name that doesn't begin with `.L`
pub record Symbol : Type 0 where
  pub name : List ℕ
  pub address : ℕ
  pub section : ℕ
  pub attributes : Attributes

abbrev pub is_symbol : Definition → Bool
is_symbol d = d.is_label && not (is_ascii_digit (slice_index d.word 0)) && not (bytes_eq (codes ".L") (take 2 d.word))

-- the sections' numbers
abbrev pub section_number : Option Section → ℕ
section_number None = 0
section_number (Some Text) = 1
section_number (Some Data) = 2

abbrev pub symbol : Frame → List Remark → Definition → Symbol
symbol f remarks d = record {
  name = d.word;
  address = word_in f d.number.section d.number.offset;
  section = section_number d.number.section;
  attributes = attributes_of d.word remarks;
}

abbrev pub is_local : Attributes → Bool
is_local a = not (is_some a.binding)

-- local symbols if the flag is set, else the others, in the order of the text
abbrev pub is_chosen : Bool → List Remark → Definition → Bool
is_chosen locals remarks d =
    is_symbol d
    && (if locals then is_local (attributes_of d.word remarks) else not (is_local (attributes_of d.word remarks)))

abbrev pub chosen : Bool → Frame → List Remark → List Definition → List Symbol
chosen locals f remarks [] = []
chosen locals f remarks (d ∷ ds) =
    if is_chosen locals remarks d then symbol f remarks d ∷ chosen locals f remarks ds else chosen locals f remarks ds

-- STB_LOCAL, STB_GLOBAL, STB_WEAK; STT_NOTYPE, STT_OBJECT, STT_FUNC
abbrev pub binding_number : Option Binding → ℕ
binding_number None = 0
binding_number (Some Global) = 1
binding_number (Some Weak) = 2

abbrev pub kind_number : Option Kind → ℕ
kind_number None = 0
kind_number (Some Object) = 1
kind_number (Some Function) = 2

-- an entry: st_name, st_value, st_size; st_info, st_other; st_shndx
abbrev pub entry : ℕ → Symbol → List ℕ
entry name s =
    words (name ∷ s.address ∷ s.attributes.size ∷ [])
    ++ (16 * binding_number s.attributes.binding + kind_number s.attributes.kind) ∷ 0 ∷ half s.section

-- where the next name begins
abbrev pub after_name : ℕ → Symbol → ℕ
after_name name s = (name + length s.name + 1) % 2 ^ 32

abbrev pub entries : ℕ → List Symbol → List ℕ
entries name [] = []
entries name (s ∷ ss) = entry name s ++ entries (after_name name s) ss

abbrev pub names : List Symbol → List ℕ
names [] = []
names (s ∷ ss) = (s.name ++ 0 ∷ []) ++ names ss

abbrev pub names_end : ℕ → List Symbol → ℕ
names_end name [] = name
names_end name (s ∷ ss) = names_end (after_name name s) ss

-- `.text`, `.data`, `.symtab` and `.strtab`, each with a zero
abbrev pub section_names : List ℕ
section_names =
    0x2e ∷ 0x74 ∷ 0x65 ∷ 0x78 ∷ 0x74 ∷ 0 ∷ 0x2e ∷ 0x64 ∷ 0x61 ∷ 0x74 ∷ 0x61 ∷ 0 ∷ 0x2e ∷ 0x73 ∷ 0x79 ∷ 0x6d ∷ 0x74
    ∷ 0x61
    ∷ 0x62 ∷ 0 ∷ 0x2e ∷ 0x73 ∷ 0x74 ∷ 0x72 ∷ 0x74 ∷ 0x61 ∷ 0x62 ∷ 0 ∷ []

-- the memory: the text, the data, and zeros after each
abbrev pub memory : ℕ → ℕ → List ℕ → List ℕ → List ℕ
memory gap size code contents =
    ((code ++ replicate (gap - length code) 0) ++ contents) ++ replicate (size - gap - length contents) 0

-- the bytes of the symbol table of this many symbols
abbrev pub table_size : ℕ → ℕ
table_size count = 16 * (count + 1) % 2 ^ 32

-- sh_name, sh_type, sh_flags, sh_addr, sh_offset, sh_size, sh_link, sh_info, sh_addralign, sh_entsize of: no section;
-- `.text`, SHT_PROGBITS with SHF_ALLOC and SHF_EXECINSTR; `.data`, SHT_PROGBITS with SHF_WRITE and SHF_ALLOC; `at` is
-- where the sections' names begin
abbrev pub no_header : List ℕ
no_header = words (0 ∷ 0 ∷ 0 ∷ 0 ∷ 0 ∷ 0 ∷ 0 ∷ 0 ∷ 0 ∷ 0 ∷ [])

abbrev pub text_header : Frame → ℕ → ℕ → List ℕ
text_header f text at = words (at ∷ 1 ∷ 6 ∷ f.base ∷ 84 ∷ text ∷ 0 ∷ 0 ∷ 4 ∷ 0 ∷ [])

abbrev pub data_header : Frame → ℕ → ℕ → List ℕ
data_header f contents at =
    words
    ((at + 6) % 2 ^ 32 ∷ 1 ∷ 3 ∷ (f.base + f.gap) % 2 ^ 32 ∷ (f.gap + 84) % 2 ^ 32 ∷ contents ∷ 0 ∷ 0 ∷ 16 ∷ 0 ∷ [])

-- `.symtab`, SHT_SYMTAB, whose names are in section 4, with the number of its first symbol that isn't local; `.strtab`,
-- SHT_STRTAB. `start` is where the symbols begin
abbrev pub symbols_header : ℕ → ℕ → ℕ → ℕ → List ℕ
symbols_header start count locals at =
    words ((at + 12) % 2 ^ 32 ∷ 2 ∷ 0 ∷ 0 ∷ start ∷ table_size count ∷ 4 ∷ (locals + 1) % 2 ^ 32 ∷ 4 ∷ 16 ∷ [])

abbrev pub names_header : ℕ → ℕ → ℕ → List ℕ
names_header start count at =
    words
    ((at + 20) % 2 ^ 32 ∷ 3 ∷ 0 ∷ 0 ∷ (start + table_size count) % 2 ^ 32 ∷ (at + 28) % 2 ^ 32 ∷ 0 ∷ 0 ∷ 1 ∷ 0 ∷ [])

abbrev pub section_headers : Frame → ℕ → ℕ → ℕ → ℕ → ℕ → ℕ → List ℕ
section_headers f text contents start count locals at =
    no_header ++ (text_header f text at ++ (data_header f contents at
    ++ (symbols_header start count locals at ++ names_header start count at)))

-- what stands after the memory
abbrev pub listing : Frame → ℕ → ℕ → ℕ → ℕ → List Symbol → List ℕ
listing f text contents start locals symbols =
    section_headers f text contents start (length symbols % 2 ^ 32) locals (names_end 1 symbols)
    ++ (replicate 16 0 ++ (entries 1 symbols ++ (0 ∷ [] ++ (names symbols ++ section_names))))

-- the entry: `_start` if it is a label, else where the text begins
abbrev pub entry_from : Frame → List Definition → ℕ
entry_from f [] = f.base
entry_from f (d ∷ ds) =
    if d.is_label && bytes_eq d.word (codes "_start") then word_in f d.number.section d.number.offset
    else entry_from f ds

abbrev pub sections : ℕ → SectionTable
sections size = record { offset = (size + 84) % 2 ^ 32; header_size = 40; count = 5; names = 4 }

abbrev pub locals_of : Frame → Program → List Symbol
locals_of f p = chosen true f p.output.remarks p.defined

-- local symbols, and then the others
abbrev pub symbols_of : Frame → Program → List Symbol
symbols_of f p = locals_of f p ++ chosen false f p.output.remarks p.defined

abbrev pub file_in : Frame → ℕ → Program → List ℕ
file_in f size p =
    headers (record { base = f.base; size = size }) (entry_from f p.defined) (sections size)
    ++ (memory f.gap size p.output.code p.output.contents
    ++ listing f p.position.text_size p.position.data_size ((size + 284) % 2 ^ 32) (length (locals_of f p) % 2 ^ 32)
    (symbols_of f p))

unfoldable pub file_of : Program → List ℕ
file_of p = file_in (frame_of p.base p.position) (end_of p.base p.position - p.base) p
