-- Where the segments of an accepted ELF file are in its image: System V ABI, "Program Loading".
use Rattle.std.specs.Prelude.{◌≡◌, ◌⊎◌, ℕ, ◌+◌, ◌-◌, ◌<◌, ◌≤◌, List, None, IsTrue, nat_lt, if◌then◌else◌, slice_index}
use Rattle.std.specs.List.{All}
use Rattle.tomex_image.specs.declared.elf.program_header.ProgramHeader.{ProgramHeader}
use Rattle.tomex_image.specs.Image.{Loaded}
use Rattle.tomex_image.specs.Loading.{is_elf, IsPlaced, refused}
use Rattle.tomex_image.specs.Placing.{file_byte}
use Rattle.tomex_image.specs.Window.{Span}

-- the image of an ELF file that isn't refused
pub record IsElfImage (bytes : List ℕ) (window : Span) (image : Loaded) : Type 0 where
  pub elf : IsTrue (is_elf bytes)
  pub accepted : refused bytes window ≡ None
  pub image_of : IsPlaced bytes window image

-- the byte of the image at an address of its window
abbrev pub image_byte : Loaded → ℕ → ℕ
image_byte image a = slice_index image.memory (a - image.window.base)

-- the byte of a segment at an address of its own: the file's bytes, and zeros after them
abbrev pub segment_byte : List ℕ → ProgramHeader → ℕ → ℕ
segment_byte bytes h a = if nat_lt a (h.address + h.file_size) then file_byte bytes h a else 0

-- the image has the whole segment at its address
abbrev pub StandsIn : List ℕ → Loaded → ProgramHeader → Type 0
StandsIn bytes image h =
    (a : ℕ) → h.address ≤ a → a < h.address + h.memory_size → image_byte image a ≡ segment_byte bytes h a

-- the address is no byte of the segment
abbrev pub IsOutside : ℕ → ProgramHeader → Type 0
IsOutside a h = (a < h.address) ⊎ (h.address + h.memory_size ≤ a)

-- each byte of the window that is in none of the segments is zero
abbrev pub IsZeroOutside : List ProgramHeader → Loaded → Type 0
IsZeroOutside segments image = (a : ℕ) → image.window.base ≤ a → a < image.window.base + image.window.size
    → All (IsOutside a) segments → image_byte image a ≡ 0
