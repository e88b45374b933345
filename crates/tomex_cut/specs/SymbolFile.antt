-- An ELF file of 32 bits with a window's whole memory and the symbols of another file that name code: System V ABI,
-- "Sections", "Symbol Table" and "String Table". Its sections are the memory as code, the symbols, and their names.
use Rattle.std.specs.Prelude.{ℕ, ◌+◌, ◌-◌, ◌*◌, List, [], ◌∷◌, ◌++◌, length, take, drop, replicate}
use Rattle.std.specs.Prelude.{Option, Some, None, Bool, nat_eq}
use Rattle.std.specs.List.{flat_map, take_while}
use Rattle.tomex_elf.specs.declared.file.SectionTable.{SectionTable}
use Rattle.tomex_elf.specs.File.{half, headers, words}
use Rattle.tomex_image.specs.Window.{Span}
use Rattle.tomex_symbols.specs.declared.sections.Tables.{Tables}
use Rattle.tomex_symbols.specs.declared.symbol.Binding.{Binding}
use Rattle.tomex_symbols.specs.declared.symbol.Binding.TheVariants.{Global, Weak, Other}
use Rattle.tomex_symbols.specs.declared.symbol.Kind.{Kind}
use Rattle.tomex_symbols.specs.declared.symbol.Kind.TheVariants.{Function, Label}
use Rattle.tomex_symbols.specs.declared.symbol.Symbol.{Symbol}
use Rattle.tomex_symbols.specs.Sections.{tables_of}
use Rattle.tomex_symbols.specs.Symbols.{symbols_of}

-- the names of a file's symbols, as they are, and where in it they begin
abbrev pub names_in : List ℕ → Option Tables → List ℕ
names_in bytes None = []
names_in bytes (Some t) = take t.names.size (drop t.names.offset bytes)

abbrev pub start_in : Option Tables → ℕ
start_in None = 0
start_in (Some t) = t.names.offset

-- STT_FUNC, STT_NOTYPE
abbrev pub type_of : Kind → ℕ
type_of Function = 2
type_of Label = 0

-- STB_GLOBAL, STB_WEAK, STB_LOCAL
abbrev pub binding_number : Binding → ℕ
binding_number Global = 1
binding_number Weak = 2
binding_number Other = 0

abbrev pub info_of : Symbol → ℕ
info_of s = 16 * binding_number s.binding + type_of s.kind

-- the entry of a symbol: st_name, st_value, st_size; st_info, st_other; st_shndx, the section of code
abbrev pub entry_of : ℕ → Symbol → List ℕ
entry_of start s = words ((s.name - start) ∷ s.address ∷ s.size ∷ []) ++ info_of s ∷ 0 ∷ half 1

-- the symbol table: an entry of zeros, and one for each symbol
abbrev pub symbol_table : ℕ → List Symbol → List ℕ
symbol_table start symbols = replicate 16 0 ++ flat_map (entry_of start) symbols

-- after a zero byte `.text`, `.symtab` and `.strtab`, with a zero byte after each
abbrev pub section_names : List ℕ
section_names =
    0 ∷ 0x2e ∷ 0x74 ∷ 0x65 ∷ 0x78 ∷ 0x74 ∷ 0 ∷ 0x2e ∷ 0x73 ∷ 0x79 ∷ 0x6d ∷ 0x74 ∷ 0x61 ∷ 0x62 ∷ 0
    ∷ 0x2e ∷ 0x73 ∷ 0x74 ∷ 0x72 ∷ 0x74 ∷ 0x61 ∷ 0x62 ∷ 0 ∷ []

-- the string table: the symbols' names, and those of the sections
abbrev pub string_table : List ℕ → List ℕ
string_table names = names ++ section_names

-- STB_LOCAL: the ABI has these before all others
abbrev pub is_local : Symbol → Bool
is_local s = nat_eq (binding_number s.binding) 0

-- where the headers of the sections, the symbol table and the names begin
abbrev pub headers_at : Span → ℕ
headers_at window = 84 + window.size

abbrev pub symbols_at : Span → ℕ
symbols_at window = headers_at window + 160

abbrev pub names_at : Span → ℕ → ℕ
names_at window count = symbols_at window + 16 * (count + 1)

-- sh_name, sh_type, sh_flags, sh_addr, sh_offset, sh_size, sh_link, sh_info, sh_addralign, sh_entsize of: no section;
-- `.text`, SHT_PROGBITS with SHF_ALLOC and SHF_EXECINSTR; `.symtab`, SHT_SYMTAB, whose names are in section 3, and the
-- number of its first symbol that isn't local; `.strtab`, SHT_STRTAB. There are `count` symbols, of which the first
-- `locals` are local, and `size` bytes of their names
abbrev pub section_headers : Span → ℕ → ℕ → ℕ → List ℕ
section_headers window count locals size =
    words (0 ∷ 0 ∷ 0 ∷ 0 ∷ 0 ∷ 0 ∷ 0 ∷ 0 ∷ 0 ∷ 0 ∷ [])
    ++ words ((size + 1) ∷ 1 ∷ 6 ∷ window.base ∷ 84 ∷ window.size ∷ 0 ∷ 0 ∷ 4 ∷ 0 ∷ [])
    ++ words ((size + 7) ∷ 2 ∷ 0 ∷ 0 ∷ symbols_at window ∷ (16 * (count + 1)) ∷ 3 ∷ (locals + 1) ∷ 4 ∷ 16 ∷ [])
    ++ words ((size + 15) ∷ 3 ∷ 0 ∷ 0 ∷ names_at window count ∷ (size + 23) ∷ 0 ∷ 0 ∷ 1 ∷ 0 ∷ [])

-- four headers of 40 bytes; the last section has their names
abbrev pub four_sections : Span → SectionTable
four_sections window = record { offset = headers_at window; header_size = 40; count = 4; names = 3 }

-- what the file has after the memory. The headers come first, since names end anywhere: so both, and the entries, are
-- at multiples of 4
abbrev pub listing : Span → List Symbol → ℕ → List ℕ → List ℕ
listing window symbols start names =
    section_headers window (length symbols) (length (take_while is_local symbols)) (length names)
    ++ symbol_table start symbols ++ string_table names

-- the file of a memory that fills the window, with the symbols of a file
abbrev pub symbol_file_of : Span → ℕ → List ℕ → List ℕ → List ℕ
symbol_file_of window entry memory bytes =
    headers window entry (four_sections window) ++ memory
    ++ listing window (symbols_of bytes) (start_in (tables_of bytes)) (names_in bytes (tables_of bytes))
