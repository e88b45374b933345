-- The file header of an ELF file of 32 bits: System V ABI, "ELF Header" and "ELF Identification".
use Rattle.std.specs.Prelude.{ℕ, ◌+◌, ◌*◌, List, Bool, nat_eq, ◌&&◌, slice_index}

-- 2 and 4 bytes of the file, low byte first: "Data Encoding", ELFDATA2LSB
abbrev pub half_at : List ℕ → ℕ → ℕ
half_at bytes i = slice_index bytes i + 256 * slice_index bytes (i + 1)

abbrev pub word_at : List ℕ → ℕ → ℕ
word_at bytes i =
    slice_index bytes i + 256 * slice_index bytes (i + 1) + 65536 * slice_index bytes (i + 2)
    + 16777216 * slice_index bytes (i + 3)

-- e_type
abbrev pub file_type : List ℕ → ℕ
file_type bytes = half_at bytes 16

-- e_machine
abbrev pub machine : List ℕ → ℕ
machine bytes = half_at bytes 18

-- e_entry, the address of the first instruction
abbrev pub entry_of : List ℕ → ℕ
entry_of bytes = word_at bytes 24

-- e_phoff, where in the file the program headers begin
abbrev pub header_offset : List ℕ → ℕ
header_offset bytes = word_at bytes 28

-- e_phentsize, the size of a program header
abbrev pub header_size : List ℕ → ℕ
header_size bytes = half_at bytes 42

-- e_phnum, how many program headers there are
abbrev pub header_count : List ℕ → ℕ
header_count bytes = half_at bytes 44

-- ELFCLASS32, ELFDATA2LSB, EV_CURRENT, and EM_RISCV
abbrev pub is_rv32_file : List ℕ → Bool
is_rv32_file bytes =
    nat_eq (slice_index bytes 4) 1 && nat_eq (slice_index bytes 5) 1 && nat_eq (slice_index bytes 6) 1
    && nat_eq (machine bytes) 243

-- ET_EXEC
abbrev pub is_executable : List ℕ → Bool
is_executable bytes = nat_eq (file_type bytes) 2
