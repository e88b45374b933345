-- Segments that share no byte: the tests accept no others, and each places its own bytes.
use Rattle.std.proofs.Common.{◌≡◌, ℕ, get_or, ◌+◌, ◌<◌, ◌≤◌, List, [], ◌∷◌, ◌++◌, length, Bool, true, false, cond, suc}
use Rattle.std.proofs.Common.{zero, refl, arith, None}
use Rattle.std.specs.List.{list_any, All}
use Rattle.std.proofs.lemmas.List.Elements.{All-head, All-tail}
use Rattle.tomex_image.specs.Window.{Span}
use Rattle.tomex_image.specs.declared.elf.program_header.ProgramHeader.{ProgramHeader}
use Rattle.tomex_image.specs.ElfTests.{header_tests, tests_from, Fits}
use Rattle.tomex_image.specs.Placing.{is_filled, byte_of}
use Rattle.tomex_image.specs.Standing.{segment_byte, IsOutside}
use Rattle.tomex_image.specs.ProgramHeader.{shares_byte, segments_from, with_segment, takes_memory}
use Rattle.tomex_image.specs.Tests.{first_failing}
use Rattle.tomex_image.proofs.Refusals.{none_parts}

-- the first of the list shares no byte with the others, and so on
abbrev ApartFrom : ProgramHeader → List ProgramHeader → Type 0
ApartFrom h [] = Unit {0}
ApartFrom h (x ∷ xs) = (shares_byte h x ≡ false) × ApartFrom h xs

abbrev Apart : List ProgramHeader → Type 0
Apart [] = Unit {0}
Apart (x ∷ xs) = ApartFrom x xs × Apart xs

-- a segment that shares nothing is added at the end
from_push : (x : ProgramHeader) (xs : List ProgramHeader) (h : ProgramHeader) → ApartFrom x xs → shares_byte x h ≡ false
    → ApartFrom x (xs ++ h ∷ [])
from_push x [] h a s = (s, tt)
from_push x (y ∷ ys) h a s = (a.0, from_push x ys h a.1 s)

any_parts : (p q : Bool) → cond p true q ≡ false → (p ≡ false) × (q ≡ false)
any_parts true q e = cc
any_parts false q e = (refl, e)

push : (xs : List ProgramHeader) (h : ProgramHeader) → Apart xs → list_any (λ s. shares_byte s h) xs ≡ false
    → Apart (xs ++ h ∷ [])
push [] h a s = (tt, tt)
push (x ∷ xs) h a s = let parts : (shares_byte x h ≡ false) × (list_any (λ s. shares_byte s h) xs ≡ false) =
    grind arith in
    (from_push x xs h a.0 parts.0, push xs h a.1 parts.1)

-- a header that passes its tests shares nothing with the segments before it
apart_of : (window : Span) (len : ℕ) (segments : List ProgramHeader) (h : ProgramHeader)
    → first_failing (header_tests window len segments h) ≡ None → takes_memory h ≡ true
    → list_any (λ s. shares_byte s h) segments ≡ false
apart_of window len segments h passed takes = grind arith

-- so all segments of a file that passes are apart
pub all_apart : (window : Span) (len entry : ℕ) (segments hs : List ProgramHeader)
    → first_failing (tests_from window len entry segments hs) ≡ None → Apart segments
    → Apart (segments_from segments hs)
all_apart window len entry segments [] passed a = a
all_apart window len entry segments (h ∷ hs) passed a =
    let both = none_parts (header_tests window len segments h)
    (tests_from window len entry (with_segment segments h) hs) passed in
    all_apart window len entry (with_segment segments h) hs both.1 (at_header (takes_memory h) refl both.0)
  where
    at_header : (b : Bool) → takes_memory h ≡ b → first_failing (header_tests window len segments h) ≡ None
        → Apart (cond b (segments ++ h ∷ []) segments)
    at_header true e p = push segments h a (apart_of window len segments h p e)
    at_header false e p = a

-- none is longer in the file than in memory
abbrev Sized : List ProgramHeader → Type 0
Sized [] = Unit {0}
Sized (x ∷ xs) = (x.file_size ≤ x.memory_size) × Sized xs

pub sized_of : (window : Span) (len : ℕ) (xs : List ProgramHeader) → All (Fits window len) xs → Sized xs
sized_of window len [] fit = tt
sized_of window len (x ∷ xs) fit =
    ((All-head (Fits window len) x xs fit).not_longer, sized_of window len xs (All-tail (Fits window len) x xs fit))

-- an address of one is in no part of the other
unfilled : (h x : ProgramHeader) (a : ℕ) → shares_byte h x ≡ false → x.file_size ≤ x.memory_size → h.address ≤ a
    → a < h.address + h.memory_size → is_filled x a ≡ false
unfilled h x a apart sized low high = grind arith

unfilled_too : (h x : ProgramHeader) (a : ℕ) → shares_byte x h ≡ false → x.file_size ≤ x.memory_size → h.address ≤ a
    → a < h.address + h.memory_size → is_filled x a ≡ false
unfilled_too h x a apart sized low high = grind arith

-- so the others place nothing there
elsewhere : (bytes : List ℕ) (h : ProgramHeader) (xs : List ProgramHeader) (a : ℕ) → ApartFrom h xs → Sized xs
    → h.address ≤ a → a < h.address + h.memory_size → byte_of bytes xs a ≡ 0
elsewhere bytes h [] a apart sized low high = refl
elsewhere bytes h (x ∷ xs) a apart sized low high =
    rw (unfilled h x a apart.0 sized.0 low high) (elsewhere bytes h xs a apart.1 sized.1 low high)

-- the first of the list and any other
from_at : (x : ProgramHeader) (xs : List ProgramHeader) (k : ℕ) (d : ProgramHeader) → ApartFrom x xs → k < length xs
    → shares_byte x (get_or xs k d) ≡ false
from_at x [] k d apart in' = absurd (omega arith)
from_at x (y ∷ ys) zero d apart in' = apart.0
from_at x (y ∷ ys) (suc k) d apart in' = from_at x ys k d apart.1 (omega arith)

-- the first segment is in place at addresses at which no other places anything
first_stands : (bytes : List ℕ) (x : ProgramHeader) (xs : List ProgramHeader) (a : ℕ) → byte_of bytes xs a ≡ 0
    → x.address ≤ a → byte_of bytes (x ∷ xs) a ≡ segment_byte bytes x a
first_stands bytes x xs a none low = grind arith

-- any segment is in place
pub stands : (bytes : List ℕ) (xs : List ProgramHeader) (k : ℕ) (d : ProgramHeader) (a : ℕ) → Apart xs → Sized xs
    → k < length xs → (get_or xs k d).address ≤ a → a < (get_or xs k d).address + (get_or xs k d).memory_size
    → byte_of bytes xs a ≡ segment_byte bytes (get_or xs k d) a
stands bytes [] k d a apart sized in' low high = absurd (omega arith)
stands bytes (x ∷ xs) zero d a apart sized in' low high =
    first_stands bytes x xs a (elsewhere bytes x xs a apart.0 sized.1 low high) low
stands bytes (x ∷ xs) (suc k) d a apart sized in' low high =
    let within : k < length xs = omega arith in
    rw (unfilled_too (get_or xs k d) x a (from_at x xs k d apart.0 within) sized.0 low high)
    (stands bytes xs k d a apart.1 sized.1 within low high)

-- outside all segments each byte is zero
pub zero_from : (bytes : List ℕ) (xs : List ProgramHeader) (a : ℕ) → Sized xs → All (IsOutside a) xs
    → byte_of bytes xs a ≡ 0
zero_from bytes [] a sized out = refl
zero_from bytes (x ∷ xs) a sized out =
    let here : IsOutside a x = All-head (IsOutside a) x xs out in
    let empty : is_filled x a ≡ false = unfilled_here x a sized.0 here in
    rw empty (zero_from bytes xs a sized.1 (All-tail (IsOutside a) x xs out))
  where
    unfilled_here : (h : ProgramHeader) (a : ℕ) → h.file_size ≤ h.memory_size → IsOutside a h → is_filled h a ≡ false
    unfilled_here h a s o = grind arith
