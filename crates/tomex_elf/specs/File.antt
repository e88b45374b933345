-- An ELF file of 32 bits with one segment, a window's whole memory: System V ABI, "ELF Header" and "Program Header".
use Rattle.std.specs.Prelude.{ℕ, ◌/◌, ◌%◌, List, [], ◌∷◌, ◌++◌}
use Rattle.tomex_elf.specs.declared.file.SectionTable.{SectionTable}
use Rattle.tomex_image.specs.Window.{Span}

-- two and four bytes, the low one first
abbrev pub half : ℕ → List ℕ
half n = n % 256 ∷ n / 256 % 256 ∷ []

abbrev pub word : ℕ → List ℕ
word n = n % 256 ∷ n / 256 % 256 ∷ n / 65536 % 256 ∷ n / 16777216 % 256 ∷ []

abbrev pub halves : List ℕ → List ℕ
halves [] = []
halves (n ∷ ns) = half n ++ halves ns

abbrev pub words : List ℕ → List ℕ
words [] = []
words (n ∷ ns) = word n ++ words ns

-- ELF's magic number, ELFCLASS32, ELFDATA2LSB, EV_CURRENT, and zeros
abbrev pub identification : List ℕ
identification = 0x7f ∷ 0x45 ∷ 0x4c ∷ 0x46 ∷ 1 ∷ 1 ∷ 1 ∷ 0 ∷ 0 ∷ 0 ∷ 0 ∷ 0 ∷ 0 ∷ 0 ∷ 0 ∷ 0 ∷ []

-- nothing of sections
abbrev pub no_sections : SectionTable
no_sections = record { offset = 0; header_size = 0; count = 0; names = 0 }

-- ET_EXEC, EM_RISCV; EV_CURRENT, the entry, where the program headers are, where those of sections are, no flags; the
-- sizes of this header and of a program header, one of these; of sections the size of a header, how many there are, and
-- which one has their names
abbrev pub file_header : ℕ → SectionTable → List ℕ
file_header entry sections =
    identification ++ halves (2 ∷ 243 ∷ []) ++ words (1 ∷ entry ∷ 52 ∷ sections.offset ∷ 0 ∷ [])
    ++ halves (52 ∷ 32 ∷ 1 ∷ sections.header_size ∷ sections.count ∷ sections.names ∷ [])

-- PT_LOAD; the offset in the file; both addresses, both sizes; flags for all accesses; the alignment
abbrev pub program_header : Span → List ℕ
program_header window =
    words (1 ∷ 84 ∷ window.base ∷ window.base ∷ window.size ∷ window.size ∷ 7 ∷ 4 ∷ [])

-- both headers
abbrev pub headers : Span → ℕ → SectionTable → List ℕ
headers window entry sections = file_header entry sections ++ program_header window

-- the file of a memory that fills the window
abbrev pub file_of : Span → ℕ → List ℕ → List ℕ
file_of window entry memory = headers window entry no_sections ++ memory
