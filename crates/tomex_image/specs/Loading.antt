-- The image of a file's bytes in a window, and when the bytes are refused.
use Rattle.std.specs.Prelude.{◌≡◌, ℕ, ◌+◌, ◌-◌, ◌<◌, List, [], ◌∷◌, ◌++◌, length, replicate, Option}
use Rattle.std.specs.Prelude.{Bool, nat_eq, nat_lt, ◌&&◌, if◌then◌else◌, slice_index, MatchBool}
use Rattle.tomex_image.specs.declared.error.ImageError.{ImageError}
use Rattle.tomex_image.specs.declared.error.ImageError.TheVariants.{Empty, TooLarge}
use Rattle.tomex_image.specs.ElfTests.{elf_tests}
use Rattle.tomex_image.specs.FileHeader.{entry_of}
use Rattle.tomex_image.specs.Image.{Loaded}
use Rattle.tomex_image.specs.Placing.{byte_of}
use Rattle.tomex_image.specs.ProgramHeader.{segments_of}
use Rattle.tomex_image.specs.Tests.{Test, test, first_failing}
use Rattle.tomex_image.specs.Window.{Span}

-- the bytes begin with the magic number of ELF files: System V ABI, "ELF Identification"
abbrev pub is_elf : List ℕ → Bool
is_elf bytes =
    nat_lt 3 (length bytes) && nat_eq (slice_index bytes 0) 0x7f && nat_eq (slice_index bytes 1) 0x45
    && nat_eq (slice_index bytes 2) 0x4c && nat_eq (slice_index bytes 3) 0x46

-- the tests of a flat file
abbrev pub flat_tests : List ℕ → Span → List Test
flat_tests bytes window =
    test (nat_eq (length bytes) 0) Empty
    ∷ test (nat_lt window.size (length bytes)) TooLarge
    ∷ []

-- the first test that fails, if one does
abbrev pub refused : List ℕ → Span → Option ImageError
refused bytes window = first_failing (if is_elf bytes then elf_tests bytes window else flat_tests bytes window)

-- a flat file is loaded at the window's base; the rest is zero
abbrev pub IsPlacedFlat : List ℕ → Span → Loaded → Type 0
IsPlacedFlat bytes window i = (i.window ≡ window)
    × (i.memory ≡ bytes ++ replicate (window.size - length bytes) 0)
    × (i.entry ≡ window.base)

-- an ELF file's image has at each address the byte that a segment places there, or zero
abbrev pub IsPlacedElf : List ℕ → Span → Loaded → Type 0
IsPlacedElf bytes window i = (i.window ≡ window)
    × (length i.memory ≡ window.size)
    × ((k : ℕ) → k < window.size → slice_index i.memory k ≡ byte_of bytes (segments_of bytes) (window.base + k))
    × (i.entry ≡ entry_of bytes)

-- the image is that of the bytes
abbrev pub IsPlaced : List ℕ → Span → Loaded → Type 0
IsPlaced bytes window i = MatchBool (is_elf bytes) (IsPlacedElf bytes window i) (IsPlacedFlat bytes window i)
