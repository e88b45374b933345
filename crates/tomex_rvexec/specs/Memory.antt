-- Bytes of a memory, little-endian (RV32I, section 1.4 "Memory" and section 2.6 "Load and Store
-- Instructions"). A misaligned access is done whole, byte by byte.
use Rattle.std.specs.Prelude.{ℕ, ◌+◌, ◌-◌, ◌*◌, ◌/◌, ◌%◌, ◌^◌, List, slice_index, slice_set, Bool, nat_le, nat_lt, ◌&&◌}
use Rattle.std.specs.Prelude.{if◌then◌else◌}

-- a memory: the byte at place k is the one at address base + k
pub record Bytes : Type 0 where
  pub base : ℕ
  pub bytes : List ℕ

-- `count` bytes from an address on lie in a window; addresses don't wrap
abbrev pub is_inside : ℕ → ℕ → ℕ → ℕ → Bool
is_inside base size address count = nat_le base address && nat_le (address + count) (base + size)

abbrev pub byte_read : List ℕ → ℕ → ℕ
byte_read m i = slice_index m i

abbrev pub half_read : List ℕ → ℕ → ℕ
half_read m i = slice_index m i + 256 * slice_index m (i + 1)

abbrev pub word_read : List ℕ → ℕ → ℕ
word_read m i =
    slice_index m i + 256 * slice_index m (i + 1) + 65536 * slice_index m (i + 2) + 16777216 * slice_index m (i + 3)

abbrev pub byte_written : List ℕ → ℕ → ℕ → List ℕ
byte_written m i v = slice_set m i (v % 256)

abbrev pub half_written : List ℕ → ℕ → ℕ → List ℕ
half_written m i v = slice_set (slice_set m i (v % 256)) (i + 1) (v / 256 % 256)

abbrev pub word_written : List ℕ → ℕ → ℕ → List ℕ
word_written m i v =
    slice_set (slice_set (slice_set (slice_set m i (v % 256)) (i + 1) (v / 256 % 256)) (i + 2) (v / 65536 % 256))
    (i + 3) (v / 16777216 % 256)

-- bytes and halves whose sign is extended
abbrev pub from_byte : ℕ → ℕ
from_byte b = if nat_lt b 128 then b else b + (2 ^ 32 - 256)

abbrev pub from_half : ℕ → ℕ
from_half h = if nat_lt h 32768 then h else h + (2 ^ 32 - 65536)
