-- Which byte of memory is which byte of an ELF file: System V ABI, "Program Loading".
use Rattle.std.specs.Prelude.{ℕ, ◌+◌, ◌-◌, List, [], ◌∷◌, Bool, nat_lt, nat_le, ◌&&◌, if◌then◌else◌, slice_index}
use Rattle.tomex_image.specs.declared.elf.program_header.ProgramHeader.{ProgramHeader}

-- the address is in the part of the segment that the file holds
abbrev pub is_filled : ProgramHeader → ℕ → Bool
is_filled h a = nat_le h.address a && nat_lt a (h.address + h.file_size)

-- the byte of the file that the segment has at the address
abbrev pub file_byte : List ℕ → ProgramHeader → ℕ → ℕ
file_byte bytes h a = slice_index bytes (h.offset + (a - h.address))

-- the byte at an address: the one of the file that a segment has there, or zero
abbrev pub byte_of : List ℕ → List ProgramHeader → ℕ → ℕ
byte_of bytes [] a = 0
byte_of bytes (h ∷ hs) a = if is_filled h a then file_byte bytes h a else byte_of bytes hs a
