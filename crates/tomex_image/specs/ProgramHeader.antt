-- The program headers of an ELF file, and its segments: System V ABI, "Program Header".
use Rattle.std.specs.Prelude.{ℕ, zero, suc, ◌+◌, List, [], ◌∷◌, ◌++◌, Bool, nat_eq, nat_lt, nat_le, ◌&&◌, if◌then◌else◌}
use Rattle.tomex_image.specs.declared.elf.program_header.ProgramHeader.{ProgramHeader}
use Rattle.tomex_image.specs.FileHeader.{word_at, header_offset, header_count}
use Rattle.tomex_image.specs.Window.{Span}

-- the header at an offset of the file; p_paddr, p_flags and p_align are ignored
abbrev pub header_at : List ℕ → ℕ → ProgramHeader
header_at bytes i = record {
  kind = word_at bytes i;  -- p_type
  offset = word_at bytes (i + 4);  -- p_offset
  address = word_at bytes (i + 8);  -- p_vaddr
  file_size = word_at bytes (i + 16);  -- p_filesz
  memory_size = word_at bytes (i + 20);  -- p_memsz
}

-- headers from an offset on, of 32 bytes each
abbrev pub headers_from : List ℕ → ℕ → ℕ → List ProgramHeader
headers_from bytes i zero = []
headers_from bytes i (suc n) = header_at bytes i ∷ headers_from bytes (i + 32) n

-- all headers of the file
abbrev pub headers_of : List ℕ → List ProgramHeader
headers_of bytes = headers_from bytes (header_offset bytes) (header_count bytes)

-- PT_INTERP
abbrev pub names_interpreter : ProgramHeader → Bool
names_interpreter h = nat_eq h.kind 3

-- PT_LOAD
abbrev pub is_loadable : ProgramHeader → Bool
is_loadable h = nat_eq h.kind 1

-- the loadable segments that count: those that take memory
abbrev pub takes_memory : ProgramHeader → Bool
takes_memory h = is_loadable h && nat_lt 0 h.memory_size

-- the segments after those of the earlier headers
abbrev pub with_segment : List ProgramHeader → ProgramHeader → List ProgramHeader
with_segment segments h = if takes_memory h then segments ++ h ∷ [] else segments

abbrev pub segments_from : List ProgramHeader → List ProgramHeader → List ProgramHeader
segments_from segments [] = segments
segments_from segments (h ∷ hs) = segments_from (with_segment segments h) hs

-- the segments of the file that take memory, in its order
abbrev pub segments_of : List ℕ → List ProgramHeader
segments_of bytes = segments_from [] (headers_of bytes)

-- the bytes address .. address + count are in the window
abbrev pub lies_in : Span → ℕ → ℕ → Bool
lies_in window address count = nat_le window.base address && nat_le (address + count) (window.base + window.size)

-- two segments have a byte of memory in common
abbrev pub shares_byte : ProgramHeader → ProgramHeader → Bool
shares_byte a b = nat_lt a.address (b.address + b.memory_size) && nat_lt b.address (a.address + a.memory_size)
