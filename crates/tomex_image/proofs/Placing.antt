-- A segment copied into memory: what each byte is then.
use Rattle.std.proofs.Common.{◌≡◌, ℕ, ◌+◌, ◌-◌, ◌<◌, ◌≤◌, List, length, Bool, true, false, cond, refl, arith, rules}
use Rattle.std.proofs.Common.{nat_le, nat_lt, ◌&&◌}
use Rattle.std.specs.Prelude.{slice_index, slice_range}
use Rattle.std.proofs.lemmas.List.{places}
use borrow.Rule.Slice.PartMut.{put_mid}
use Rattle.tomex_image.specs.declared.elf.program_header.ProgramHeader.{ProgramHeader}
use Rattle.tomex_image.specs.Placing.{is_filled, file_byte}

-- the bytes below, inside and above the part that is put in
below : (memory part : List ℕ) (a n k : ℕ) → k < a → a + n ≤ length memory → slice_index (put_mid a n memory part) k
    ≡ slice_index memory k
below memory part a n k low room = search (rules, places)

inside : (memory part : List ℕ) (a n k : ℕ) → a ≤ k → k < a + n → length part ≡ n → a + n ≤ length memory
    → slice_index (put_mid a n memory part) k ≡ slice_index part (k - a)
inside memory part a n k low high size room = search (rules, places)

above : (memory part : List ℕ) (a n k : ℕ) → a + n ≤ k → length part ≡ n → a + n ≤ length memory
    → slice_index (put_mid a n memory part) k ≡ slice_index memory k
above memory part a n k high size room = grind (arith, places)

-- a part of the file, by its bytes and its length
part_at : (bytes : List ℕ) (from n j : ℕ) → j < n → from + n ≤ length bytes
    → slice_index (slice_range bytes from (from + n)) j ≡ slice_index bytes (from + j)
part_at bytes from n j in' room = search (rules, places)

part_length : (bytes : List ℕ) (from n : ℕ) → from + n ≤ length bytes → length (slice_range bytes from (from + n)) ≡ n
part_length bytes from n room = grind (arith, places)

-- the segment's part of the file is put in at its address
pub copied : (memory bytes : List ℕ) (base : ℕ) (h : ProgramHeader) (k : ℕ) → base ≤ h.address → h.address
    + h.file_size ≤ base + length memory → h.offset + h.file_size ≤ length bytes → k < length memory
    → slice_index (put_mid (h.address - base) h.file_size memory (slice_range bytes h.offset (h.offset + h.file_size)))
    k ≡ cond (is_filled h (base + k)) (file_byte bytes h (base + k)) (slice_index memory k)
copied memory bytes base h k low high whole in' =
    at (nat_le h.address (base + k)) (nat_lt (base + k) (h.address + h.file_size)) refl refl
  where
    at : (f g : Bool) → nat_le h.address (base + k) ≡ f → nat_lt (base + k) (h.address + h.file_size) ≡ g
        → slice_index (put_mid (h.address - base) h.file_size memory
        (slice_range bytes h.offset (h.offset + h.file_size))) k ≡ cond (f && g) (file_byte bytes h (base + k))
        (slice_index memory k)
    at false g p q = below memory _ (h.address - base) h.file_size k (grind arith) (omega arith)
    at true false p q = above memory _ (h.address - base) h.file_size k (grind arith)
        (part_length bytes h.offset h.file_size whole) (omega arith)
    at true true p q =
        let low' : h.address ≤ base + k = grind arith in
        let high' : base + k < h.address + h.file_size = grind arith in
        let step : k - (h.address - base) ≡ base + k - h.address = omega arith in
        rw (
          inside memory _ (h.address - base) h.file_size k (omega arith) (omega arith)
              (part_length bytes h.offset h.file_size whole) (omega arith),
          step,
        )
        (part_at bytes h.offset h.file_size (base + k - h.address) (omega arith) whole)
