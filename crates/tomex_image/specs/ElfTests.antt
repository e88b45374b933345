-- The tests of an ELF file in their order, which is this project's own. Sums are those of whole numbers: none wraps.
use Rattle.std.specs.Prelude.{◌≡◌, ℕ, ◌+◌, ◌*◌, ◌%◌, ◌<◌, ◌≤◌, List, [], ◌∷◌, ◌++◌}
use Rattle.std.specs.Prelude.{length, not, nat_eq, nat_lt, nat_le, ◌&&◌, ◌||◌}
use Rattle.std.specs.List.{list_any}
use Rattle.tomex_image.specs.declared.error.ImageError.TheVariants.{Empty, Truncated, NotRiscv, NotExec, HeaderSize}
use Rattle.tomex_image.specs.declared.error.ImageError.TheVariants.{Dynamic, Segment, Overlap, TooManySegments}
use Rattle.tomex_image.specs.declared.error.ImageError.TheVariants.{Entry}
use Rattle.tomex_image.specs.declared.elf.program_header.ProgramHeader.{ProgramHeader}
use Rattle.tomex_image.specs.FileHeader.{entry_of, header_count, header_offset, header_size, is_executable}
use Rattle.tomex_image.specs.FileHeader.{is_rv32_file}
use Rattle.tomex_image.specs.ProgramHeader.{headers_from, names_interpreter, is_loadable, takes_memory}
use Rattle.tomex_image.specs.ProgramHeader.{with_segment, lies_in, shares_byte}
use Rattle.tomex_image.specs.Tests.{Test, test}
use Rattle.tomex_image.specs.Window.{Span}

-- the most segments that may take memory
abbrev pub most_segments : ℕ
most_segments = 16

-- the tests of the file header
abbrev pub file_tests : List ℕ → List Test
file_tests bytes =
    test (nat_lt (length bytes) 52) Truncated
    ∷ test (not (is_rv32_file bytes)) NotRiscv
    ∷ test (not (is_executable bytes)) NotExec
    ∷ test (nat_lt 0 (header_count bytes) && not (nat_eq (header_size bytes) 32)) HeaderSize
    ∷ test (nat_lt 0 (header_count bytes) && nat_lt (length bytes) (header_offset bytes + 32 * header_count bytes))
    Truncated
    ∷ []

-- the tests of a program header of a file of `len` bytes, after the segments of the earlier headers
abbrev pub header_tests : Span → ℕ → List ProgramHeader → ProgramHeader → List Test
header_tests window len segments h =
    test (names_interpreter h) Dynamic
    ∷ test (is_loadable h && nat_lt h.memory_size h.file_size) Segment
    ∷ test (is_loadable h && nat_lt 0 h.file_size && nat_lt len (h.offset + h.file_size)) Truncated
    ∷ test (takes_memory h && not (lies_in window h.address h.memory_size)) Segment
    ∷ test (takes_memory h && nat_le most_segments (length segments)) TooManySegments
    ∷ test (takes_memory h && list_any (λ s. shares_byte s h) segments) Overlap
    ∷ []

-- the tests of the headers one by one, and then those of the whole file
abbrev pub tests_from : Span → ℕ → ℕ → List ProgramHeader → List ProgramHeader → List Test
tests_from window len entry segments [] =
    test (nat_eq (length segments) 0) Empty
    ∷ test (not (nat_eq (entry % 4) 0) || not (lies_in window entry 4)) Entry
    ∷ []
tests_from window len entry segments (h ∷ hs) =
    header_tests window len segments h ++ tests_from window len entry (with_segment segments h) hs

-- the tests of a table of `count` headers at an offset of the file, and of the whole
abbrev pub table_tests : Span → List ℕ → ℕ → ℕ → ℕ → List Test
table_tests window bytes entry offset count =
    tests_from window (length bytes) entry [] (headers_from bytes offset count)

-- all tests of an ELF file
abbrev pub elf_tests : List ℕ → Span → List Test
elf_tests bytes window =
    file_tests bytes ++ table_tests window bytes (entry_of bytes) (header_offset bytes) (header_count bytes)

-- the tests guarantee of the entry that it is a word of the window
abbrev pub IsEntry : Span → ℕ → Type 0
IsEntry window entry = (entry % 4 ≡ 0) × (window.base ≤ entry) × (entry + 4 ≤ window.base + window.size)

-- what the tests guarantee of each segment of a file of `len` bytes
pub record Fits (window : Span) (len : ℕ) (h : ProgramHeader) : Type 0 where
  pub within_file : 0 < h.file_size → h.offset + h.file_size ≤ len
  pub not_longer : h.file_size ≤ h.memory_size
  pub above : window.base ≤ h.address
  pub below : h.address + h.memory_size ≤ window.base + window.size
