-- The definitions computed on a file and on symbols whose answers are known.
use Rattle.std.proofs.Common.{ℕ, ◌+◌, ◌*◌, ◌/◌, ◌%◌, ◌≡◌, refl, List, [], ◌∷◌, ◌++◌, length, map, Option, Some, None}
use Rattle.std.specs.Prelude.{slice_set}
use Rattle.tomex_symbols.specs.declared.symbol.Binding.{Binding}
use Rattle.tomex_symbols.specs.declared.symbol.Binding.TheVariants.{Global, Other, Weak}
use Rattle.tomex_symbols.specs.declared.symbol.Kind.{Kind}
use Rattle.tomex_symbols.specs.declared.symbol.Kind.TheVariants.{Function, Label}
use Rattle.tomex_symbols.specs.declared.symbol.Symbol.{Symbol}
use Rattle.tomex_symbols.specs.Functions.{function_at}
use Rattle.tomex_symbols.specs.Symbols.{symbols_of}

-- words, low byte first
abbrev word : ℕ → List ℕ
word n = n % 256 ∷ n / 256 % 256 ∷ n / 65536 % 256 ∷ n / 16777216 ∷ []

abbrev words : List ℕ → List ℕ
words [] = []
words (n ∷ ns) = word n ++ words ns

-- an executable with 4 sections, whose headers begin at 184
abbrev file_header : List ℕ
file_header = words (0x464c457f ∷ 0x00010101 ∷ 0 ∷ 0 ∷ 0x00f30002 ∷ 1 ∷ 0x100 ∷ 0 ∷ 184 ∷ 0 ∷ 0x00200034 ∷ 0x00280000
    ∷ 4 ∷ [])

-- `main` at 1, `loop` at 6, `$x` at 11, `.L0` at 14
abbrev names : List ℕ
names = 0 ∷ 0x6d ∷ 0x61 ∷ 0x69 ∷ 0x6e ∷ 0 ∷ 0x6c ∷ 0x6f ∷ 0x6f ∷ 0x70 ∷ 0 ∷ 0x24 ∷ 0x78 ∷ 0 ∷ 0x2e ∷ 0x4c ∷ 0x30 ∷ 0
    ∷ 0 ∷ 0 ∷ []

-- st_name, st_value, st_size, st_info, st_shndx
abbrev entry : ℕ → ℕ → ℕ → ℕ → ℕ → List ℕ
entry name value size info section = words (name ∷ value ∷ size ∷ (info + 65536 * section) ∷ [])

-- a global function, a local label, a mapping symbol, a compiler's label, an undefined function, an object, and a
-- label outside code
abbrev entries : List ℕ
entries = entry 1 0x100 16 0x12 1 ++ entry 6 0x108 0 0x00 1 ++ entry 11 0x100 0 0x00 1 ++ entry 14 0x104 0 0x00 1
    ++ entry 1 0 0 0x12 0 ++ entry 1 0x100 4 0x11 1 ++ entry 6 0x108 0 0x00 2

-- sh_type, sh_flags, sh_offset, sh_size, sh_link, sh_entsize
abbrev header : ℕ → ℕ → ℕ → ℕ → ℕ → ℕ → List ℕ
header kind flags offset size link entry_size =
    words (0 ∷ kind ∷ flags ∷ 0 ∷ offset ∷ size ∷ link ∷ 0 ∷ 4 ∷ entry_size ∷ [])

abbrev elf : List ℕ
elf = file_header ++ names ++ entries ++ header 0 0 0 0 0 0 ++ header 1 6 0 0 0 0 ++ header 2 0 72 112 3 16
    ++ header 3 0 52 20 0 0

abbrev symbol : ℕ → ℕ → ℕ → Kind → Binding → ℕ → Symbol
symbol number address size kind binding name = record {
  number = number;
  address = address;
  size = size;
  kind = kind;
  binding = binding;
  name = name;
  names_end = 72;
}

pub size_of : length elf ≡ 344
size_of = refl

-- the function and the label count, with their numbers
pub both_count : symbols_of elf ≡ symbol 0 0x100 16 Function Global 53 ∷ symbol 1 0x108 0 Label Other 58 ∷ []
both_count = refl

-- headers of another size; more headers than the file holds
pub other_headers : symbols_of (slice_set elf 46 41) ≡ []
other_headers = refl

pub too_many_headers : symbols_of (slice_set elf 48 5) ≡ []
too_many_headers = refl

-- no symbol table; one whose entries have another size, that leaves the file, or that links to no section or to itself
pub no_table : symbols_of (slice_set elf (184 + 80 + 4) 11) ≡ []
no_table = refl

pub other_entries : symbols_of (slice_set elf (184 + 80 + 36) 24) ≡ []
other_entries = refl

pub table_outside : symbols_of (slice_set elf (184 + 80 + 21) 1) ≡ []
table_outside = refl

pub no_link : symbols_of (slice_set elf (184 + 80 + 24) 4) ≡ []
no_link = refl

pub own_link : symbols_of (slice_set elf (184 + 80 + 24) 2) ≡ []
own_link = refl

-- names that leave the file; a section that has no code
pub names_outside : symbols_of (slice_set elf (184 + 120 + 21) 2) ≡ []
names_outside = refl

pub no_code : map (λ s. s.number) (symbols_of (slice_set elf (184 + 40 + 8) 2)) ≡ 0 ∷ []
no_code = refl

-- the names end with `.` and `L`: the second is no part of a name if they end before it
pub cut_name : map (λ s. s.number) (symbols_of (slice_set elf (184 + 120 + 20) 15)) ≡ 0 ∷ 1 ∷ 3 ∷ []
cut_name = refl

-- functions of addresses

abbrev number_of : Option Symbol → Option ℕ
number_of None = None
number_of (Some s) = Some s.number

abbrev number_at : List Symbol → ℕ → Option ℕ
number_at ss pc = number_of (function_at ss pc)

-- 0 holds 1, 3 is a label in it; 2 is a label that reaches to 4
abbrev placed : List Symbol
placed = symbol 0 0x100 32 Function Global 0 ∷ symbol 1 0x108 8 Function Other 0 ∷ symbol 2 0x200 0 Label Global 0
    ∷ symbol 3 0x104 0 Label Other 0 ∷ symbol 4 0x208 4 Function Weak 0 ∷ []

pub placed_at : map (number_at placed) (0xff ∷ 0x100 ∷ 0x104 ∷ 0x108 ∷ 0x10f ∷ 0x110 ∷ 0x11f ∷ 0x120 ∷ 0x200 ∷ 0x207
    ∷ 0x208 ∷ 0x20b ∷ 0x20c ∷ [])
    ≡ None ∷ Some 0 ∷ Some 0 ∷ Some 1 ∷ Some 1 ∷ Some 0 ∷ Some 0 ∷ None ∷ Some 2 ∷ Some 2 ∷ Some 4 ∷ Some 4 ∷ None ∷ []
placed_at = refl

-- of symbols at one address: functions before labels, global before weak before others, then the first
pub first_of_equals : number_at (symbol 0 8 4 Label Global 0 ∷ symbol 1 8 4 Function Other 0
    ∷ symbol 2 8 4 Function Weak 0 ∷ symbol 3 8 4 Function Weak 0 ∷ []) 8 ≡ Some 2
first_of_equals = refl

pub global_of_equals : number_at (symbol 0 8 4 Function Weak 0 ∷ symbol 1 8 4 Function Other 0
    ∷ symbol 2 8 4 Function Global 0 ∷ []) 8 ≡ Some 2
global_of_equals = refl

-- a symbol that has ended is where a label ends, too
pub past_end : number_at (symbol 0 8 0 Label Global 0 ∷ symbol 1 12 4 Function Global 0 ∷ []) 16 ≡ None
past_end = refl
