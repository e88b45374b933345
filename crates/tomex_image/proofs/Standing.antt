-- Where the segments of an accepted ELF file are in its image.
use Rattle.std.proofs.Common.{◌≡◌, ℕ, ◌+◌, ◌-◌, ◌<◌, ◌≤◌, List, [], length, Bool, true, false, cond, arith, None, ap}
use Rattle.std.proofs.Common.{◌∙◌}
use Rattle.std.specs.Prelude.{IsTrue, MatchBool, slice_index}
use Rattle.std.specs.List.{All}
use Rattle.std.proofs.lemmas.List.Elements.{All-nil}
use Rattle.tomex_image.specs.ElfTests.{tests_from, elf_tests, file_tests, Fits}
use Rattle.tomex_image.specs.FileHeader.{entry_of}
use Rattle.tomex_image.specs.Image.{Loaded}
use Rattle.tomex_image.specs.Loading.{is_elf, flat_tests, IsPlacedFlat, IsPlacedElf, IsPlaced, refused}
use Rattle.tomex_image.specs.Placing.{byte_of}
use Rattle.tomex_image.specs.ProgramHeader.{headers_of, segments_of}
use Rattle.tomex_image.specs.Standing.{IsElfImage, IsZeroOutside, StandsIn}
use Rattle.tomex_image.specs.Tests.{first_failing}
use Rattle.tomex_image.specs.Window.{Span}
use Rattle.tomex_image.proofs.Apart.{all_apart, sized_of, stands, zero_from}
use Rattle.tomex_image.proofs.Refusals.{none_parts, all_fit}

-- an accepted ELF file passes the tests of ELF files
passes : (bytes : List ℕ) (window : Span) → IsTrue (is_elf bytes) → refused bytes window ≡ None
    → first_failing (elf_tests bytes window) ≡ None
passes bytes window elf passed = at (is_elf bytes) elf passed
  where
    at : (b : Bool) → IsTrue b → first_failing (cond b (elf_tests bytes window) (flat_tests bytes window)) ≡ None
        → first_failing (elf_tests bytes window) ≡ None
    at true t p = p
    at false t p = cc

-- and what its image is
elf_image : (bytes : List ℕ) (window : Span) (image : Loaded) → IsTrue (is_elf bytes) → IsPlaced bytes window image
    → IsPlacedElf bytes window image
elf_image bytes window image elf is = at (is_elf bytes) elf is
  where
    at : (b : Bool) → IsTrue b → MatchBool b (IsPlacedElf bytes window image) (IsPlacedFlat bytes window image)
        → IsPlacedElf bytes window image
    at true t p = p
    at false t p = cc

-- all segments of a file that passes its tests lie in it and in the window
fitting : (bytes : List ℕ) (window : Span) → first_failing (elf_tests bytes window) ≡ None
    → All (Fits window (length bytes)) (segments_of bytes)
fitting bytes window passed =
    let both = none_parts (file_tests bytes) (tests_from window (length bytes) (entry_of bytes) [] (headers_of bytes))
    passed in
    all_fit window (length bytes) (entry_of bytes) [] (headers_of bytes) both.1 (All-nil (Fits window (length bytes)))

-- the image at an address of the window
image_at : (bytes : List ℕ) (window : Span) (image : Loaded) (a : ℕ) → IsPlacedElf bytes window image → window.base ≤ a
    → a < window.base + window.size → slice_index image.memory (a - window.base) ≡ byte_of bytes (segments_of bytes) a
image_at bytes window image a is low high =
    let there : window.base + (a - window.base) ≡ a = omega arith in
    let k : a - window.base < window.size = omega arith in
    is.2 (a - window.base) k ∙ ap (λ (x : ℕ). byte_of bytes (segments_of bytes) x) there

-- each segment is at its address
pub segments_stand : (bytes : List ℕ) (window : Span) (image : Loaded) → IsElfImage bytes window image
    → All (StandsIn bytes image) (segments_of bytes)
segments_stand bytes window image is k d in' = λ a low high.
    let passed = passes bytes window is.elf is.accepted in
    let both = none_parts (file_tests bytes) (tests_from window (length bytes) (entry_of bytes) [] (headers_of bytes))
    passed in
    let fit = fitting bytes window passed in
    let here = fit k d in' in
    let elf_is = elf_image bytes window image is.elf is.image_of in
    rw (
      elf_is.0,
      image_at bytes window image a elf_is (omega (arith, here.above, low))
          (omega (arith, here.below, high)),
    )
    (stands bytes (segments_of bytes) k d a
    (all_apart window (length bytes) (entry_of bytes) [] (headers_of bytes) both.1 tt)
    (sized_of window (length bytes) (segments_of bytes) fit)
    in' low high)

-- and each byte of the window outside all segments is zero
pub rest_is_zero : (bytes : List ℕ) (window : Span) (image : Loaded) → IsElfImage bytes window image
    → IsZeroOutside (segments_of bytes) image
rest_is_zero bytes window image is a low high out =
    let fit = fitting bytes window (passes bytes window is.elf is.accepted) in
    let elf_is = elf_image bytes window image is.elf is.image_of in
    let base = ap (λ (w : Span). w.base) elf_is.0 in
    let size = ap (λ (w : Span). w.size) elf_is.0 in
    rw (elf_is.0, image_at bytes window image a elf_is (omega (arith, base, low)) (omega (arith, base, size, high)))
    (zero_from bytes (segments_of bytes) a (sized_of window (length bytes) (segments_of bytes) fit) out)
