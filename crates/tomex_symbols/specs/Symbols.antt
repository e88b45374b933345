-- The symbols of an ELF file that name code: System V ABI, "Symbol Table" and "String Table".
use Rattle.std.specs.Prelude.{ℕ, zero, suc, ◌+◌, ◌*◌, ◌/◌, ◌%◌, List, [], ◌∷◌, ◌++◌, length, Option, Some}
use Rattle.std.specs.Prelude.{None, slice_index}
use Rattle.std.specs.Prelude.{Bool, not, nat_eq, nat_lt, ◌&&◌, ◌||◌, if◌then◌else◌}
use Rattle.tomex_image.specs.FileHeader.{half_at, word_at}
use Rattle.tomex_symbols.specs.declared.sections.Section.{Section}
use Rattle.tomex_symbols.specs.declared.sections.Tables.{Tables}
use Rattle.tomex_symbols.specs.declared.symbol.Binding.{Binding}
use Rattle.tomex_symbols.specs.declared.symbol.Binding.TheVariants.{Global, Weak, Other}
use Rattle.tomex_symbols.specs.declared.symbol.Kind.{Kind}
use Rattle.tomex_symbols.specs.declared.symbol.Kind.TheVariants.{Function, Label}
use Rattle.tomex_symbols.specs.declared.symbol.Symbol.{Symbol}
use Rattle.tomex_symbols.specs.Sections.{has_code, section, section_count, tables_of}

-- where in the file a name begins, and where the names end
abbrev pub name_place : Section → ℕ → ℕ
name_place names st_name = names.offset + st_name

abbrev pub names_end : Section → ℕ
names_end names = names.offset + names.size

-- st_name lies in the names, and the name isn't empty
abbrev pub is_named : List ℕ → Section → ℕ → Bool
is_named bytes names st_name =
    nat_lt st_name names.size && not (nat_eq (slice_index bytes (name_place names st_name)) 0)

-- the name begins with `$`, as those of mapping symbols, or with `.L`, as a compiler's own labels
abbrev pub is_internal : List ℕ → Section → ℕ → Bool
is_internal bytes names st_name =
    nat_eq (slice_index bytes (name_place names st_name)) 0x24
    || nat_eq (slice_index bytes (name_place names st_name)) 0x2e && nat_lt (st_name + 1) names.size
    && nat_eq (slice_index bytes (name_place names st_name + 1)) 0x4c

-- STT_FUNC, and not SHN_UNDEF
abbrev pub is_function : ℕ → ℕ → Bool
is_function st_info st_shndx = nat_eq (st_info % 16) 2 && not (nat_eq st_shndx 0)

-- STT_NOTYPE, in a section of code
abbrev pub is_in_code : List ℕ → ℕ → ℕ → Bool
is_in_code bytes st_info st_shndx =
    nat_eq (st_info % 16) 0 && nat_lt st_shndx (section_count bytes) && has_code (section bytes st_shndx)

-- a function, a label, or a symbol that doesn't count
abbrev pub kind_of : List ℕ → Section → ℕ → ℕ → ℕ → Option Kind
kind_of bytes names st_name st_info st_shndx =
    if not (is_named bytes names st_name) then None
    else if is_function st_info st_shndx then Some Function
    else if is_in_code bytes st_info st_shndx && not (is_internal bytes names st_name) then Some Label
    else None

-- STB_GLOBAL, STB_WEAK
abbrev pub binding_of : ℕ → Binding
binding_of st_info =
    if nat_eq (st_info / 16) 1 then Global
    else if nat_eq (st_info / 16) 2 then Weak
    else Other

-- the symbol of a number, of the entry at an offset of the file, if it counts
abbrev pub symbol_of_kind : List ℕ → Section → ℕ → ℕ → Option Kind → List Symbol
symbol_of_kind bytes names number i None = []
symbol_of_kind bytes names number i (Some kind) = record {
  number = number;
  address = word_at bytes (i + 4);  -- st_value
  size = word_at bytes (i + 8);  -- st_size
  kind = kind;
  binding = binding_of (slice_index bytes (i + 12));  -- st_info
  name = name_place names (word_at bytes i);  -- st_name
  names_end = names_end names;
} ∷ []

-- the kind of the entry at an offset, if it counts
abbrev pub kind_at : List ℕ → Section → ℕ → Option Kind
kind_at bytes names i =
    kind_of bytes names (word_at bytes i) (slice_index bytes (i + 12)) (half_at bytes (i + 14))

abbrev pub counted_at : List ℕ → Section → ℕ → ℕ → List Symbol
counted_at bytes names number i = symbol_of_kind bytes names number i (kind_at bytes names i)

-- the symbols that count of n entries of the table, from number k on
abbrev pub symbols_from : List ℕ → Tables → ℕ → ℕ → List Symbol
symbols_from bytes t k zero = []
symbols_from bytes t k (suc n) =
    counted_at bytes t.names k (t.symbols.offset + 16 * k) ++ symbols_from bytes t (k + 1) n

abbrev pub symbols_in : List ℕ → Option Tables → List Symbol
symbols_in bytes None = []
symbols_in bytes (Some t) = symbols_from bytes t 0 (t.symbols.size / 16)

-- the symbols of a file, none if it has no symbol table that can be read
abbrev pub symbols_of : List ℕ → List Symbol
symbols_of bytes = symbols_in bytes (tables_of bytes)

-- the file has a symbol that names code
abbrev pub has_symbols : List ℕ → Bool
has_symbols bytes = nat_lt 0 (length (symbols_of bytes))
