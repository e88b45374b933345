-- The section headers of an ELF file of 32 bits: System V ABI, "ELF Header" and "Sections".
use Rattle.std.specs.Prelude.{ℕ, zero, suc, ◌+◌, ◌*◌, ◌/◌, ◌%◌, List, [], ◌∷◌, length, Option, Some, None}
use Rattle.std.specs.Prelude.{Bool, nat_eq, nat_lt, nat_le, ◌&&◌, if◌then◌else◌}
use Rattle.tomex_image.specs.FileHeader.{half_at, word_at}
use Rattle.tomex_image.specs.Loading.{is_elf}
use Rattle.tomex_symbols.specs.declared.sections.Section.{Section}
use Rattle.tomex_symbols.specs.declared.sections.Tables.{Tables}

-- e_shoff, where in the file the section headers begin
abbrev pub table_offset : List ℕ → ℕ
table_offset bytes = word_at bytes 32

-- e_shentsize, the size of a section header
abbrev pub header_size : List ℕ → ℕ
header_size bytes = half_at bytes 46

-- e_shnum, how many section headers there are
abbrev pub section_count : List ℕ → ℕ
section_count bytes = half_at bytes 48

-- the file is an ELF file, and its section headers, of 40 bytes each, lie in it
abbrev pub has_sections : List ℕ → Bool
has_sections bytes =
    is_elf bytes && nat_le 52 (length bytes) && nat_eq (header_size bytes) 40
    && nat_le (table_offset bytes + 40 * section_count bytes) (length bytes)

-- the header at an offset of the file; sh_name, sh_addr, sh_info and sh_addralign are ignored
abbrev pub section_at : List ℕ → ℕ → Section
section_at bytes i = record {
  kind = word_at bytes (i + 4);  -- sh_type
  flags = word_at bytes (i + 8);  -- sh_flags
  offset = word_at bytes (i + 16);  -- sh_offset
  size = word_at bytes (i + 20);  -- sh_size
  link = word_at bytes (i + 24);  -- sh_link
  entry_size = word_at bytes (i + 36);  -- sh_entsize
}

-- the section of a number
abbrev pub section : List ℕ → ℕ → Section
section bytes k = section_at bytes (table_offset bytes + 40 * k)

-- n sections, from number k on
abbrev pub sections_from : List ℕ → ℕ → ℕ → List Section
sections_from bytes k zero = []
sections_from bytes k (suc n) = section bytes k ∷ sections_from bytes (k + 1) n

-- SHT_SYMTAB
abbrev pub is_symbol_table : Section → Bool
is_symbol_table s = nat_eq s.kind 2

-- SHT_STRTAB
abbrev pub is_string_table : Section → Bool
is_string_table s = nat_eq s.kind 3

-- SHF_EXECINSTR: bit 2 of the flags
abbrev pub has_code : Section → Bool
has_code s = nat_eq (s.flags / 4 % 2) 1

abbrev pub lies_in_file : List ℕ → Section → Bool
lies_in_file bytes s = nat_le (s.offset + s.size) (length bytes)

abbrev pub first_symbol_table : List Section → Option Section
first_symbol_table [] = None
first_symbol_table (s ∷ ss) = if is_symbol_table s then Some s else first_symbol_table ss

-- a symbol table can be read: its entries have 16 bytes, and the section that it links to has their names
abbrev pub can_be_read : List ℕ → Section → Bool
can_be_read bytes s =
    nat_eq s.entry_size 16 && lies_in_file bytes s && nat_lt s.link (section_count bytes)
    && is_string_table (section bytes s.link) && lies_in_file bytes (section bytes s.link)

abbrev pub with_names : List ℕ → Option Section → Option Tables
with_names bytes None = None
with_names bytes (Some s) =
    if can_be_read bytes s then Some (record { symbols = s; names = section bytes s.link }) else None

-- the first symbol table and the table of its names
abbrev pub tables_of : List ℕ → Option Tables
tables_of bytes =
    if has_sections bytes
    then with_names bytes (first_symbol_table (sections_from bytes 0 (section_count bytes)))
    else None
