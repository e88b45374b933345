-- Lists of tests: the first that fails of two lists, and of the headers one by one.
use Rattle.std.proofs.Common.{◌≡◌, ℕ, suc, ◌+◌, ◌-◌, ◌<◌, ◌≤◌, List, [], ◌∷◌, ◌++◌, length, Some, None, Bool, true}
use Rattle.std.proofs.Common.{false, cond, refl, arith, sym, ◌∙◌, ap}
use Rattle.tomex_image.specs.declared.error.ImageError.{ImageError}
use Rattle.tomex_image.specs.declared.elf.program_header.ProgramHeader.{ProgramHeader}
use Rattle.tomex_image.specs.ElfTests.{header_tests, tests_from, Fits}
use Rattle.tomex_image.specs.ProgramHeader.{headers_from, header_at, segments_from, with_segment, takes_memory}
use Rattle.std.specs.List.{All}
use Rattle.std.proofs.lemmas.List.Elements.{All-push}
use Rattle.tomex_image.specs.Window.{Span}
use Rattle.tomex_image.specs.Tests.{Test, first_failing}

-- if the first list passes, the second decides
pub passes_at : (a b : List Test) → first_failing a ≡ None → first_failing (a ++ b) ≡ first_failing b
passes_at [] b h = refl
passes_at (t ∷ ts) b h = at_test t.fails refl h (passes_at ts b)
  where
    at_test : (f : Bool) → t.fails ≡ f → cond f (Some t.answer) (first_failing ts) ≡ None
        → (first_failing ts ≡ None → first_failing (ts ++ b) ≡ first_failing b)
        → first_failing ((t ∷ ts) ++ b) ≡ first_failing b
    at_test true e h later = cc
    at_test false e h later = rw e (later h)

-- if the first list fails, it decides
pub fails_at : (a b : List Test) (e : ImageError) → first_failing a ≡ Some e → first_failing (a ++ b) ≡ Some e
fails_at [] b e h = cc
fails_at (t ∷ ts) b e h = at_test t.fails refl h (fails_at ts b e)
  where
    at_test : (f : Bool) → t.fails ≡ f → cond f (Some t.answer) (first_failing ts) ≡ Some e
        → (first_failing ts ≡ Some e → first_failing (ts ++ b) ≡ Some e) → first_failing ((t ∷ ts) ++ b) ≡ Some e
    at_test true g h later = rw g h
    at_test false g h later = rw g (later h)

-- the headers that are left: the next one and the others, or none
pub headers_next : (bytes : List ℕ) (i count k : ℕ) → k < count → headers_from bytes i (count - k) ≡ header_at bytes i
    ∷ headers_from bytes (i + 32) (count - (k + 1))
headers_next bytes i count k h = let e : count - k ≡ suc (count - (k + 1)) = omega arith in rw e refl

pub headers_end : (bytes : List ℕ) (i count k : ℕ) → count ≤ k → headers_from bytes i (count - k) ≡ []
headers_end bytes i count k h = let e : count - k ≡ 0 = omega arith in rw e refl

-- if both lists pass together, each passes
pub none_parts : (a b : List Test) → first_failing (a ++ b) ≡ None → (first_failing a ≡ None) × (first_failing b ≡ None)
none_parts [] b h = (refl, h)
none_parts (t ∷ ts) b h = at_test t.fails refl h (none_parts ts b)
  where
    at_test : (f : Bool) → t.fails ≡ f → cond f (Some t.answer) (first_failing (ts ++ b)) ≡ None
        → (first_failing (ts ++ b) ≡ None → (first_failing ts ≡ None) × (first_failing b ≡ None))
        → (first_failing (t ∷ ts) ≡ None) × (first_failing b ≡ None)
    at_test true e h later = cc
    at_test false e h later = let both = later h in (rw e both.0, both.1)

-- what the tests guarantee of a segment
pub fits_of : (window : Span) (len : ℕ) (segments : List ProgramHeader) (h : ProgramHeader)
    → first_failing (header_tests window len segments h) ≡ None → takes_memory h ≡ true → Fits window len h
fits_of window len segments h passed takes = record {
  within_file = λ some. grind arith;
  not_longer = grind arith;
  above = grind arith;
  below = grind arith;
}

-- and of all segments
pub all_fit : (window : Span) (len entry : ℕ) (segments hs : List ProgramHeader)
    → first_failing (tests_from window len entry segments hs) ≡ None → All (Fits window len) segments
    → All (Fits window len) (segments_from segments hs)
all_fit window len entry segments [] passed fit = fit
all_fit window len entry segments (h ∷ hs) passed fit =
    let both = none_parts (header_tests window len segments h)
    (tests_from window len entry (with_segment segments h) hs) passed in
    all_fit window len entry (with_segment segments h) hs both.1 (at_header (takes_memory h) refl both.0)
  where
    at_header : (b : Bool) → takes_memory h ≡ b → first_failing (header_tests window len segments h) ≡ None
        → All (Fits window len) (cond b (segments ++ h ∷ []) segments)
    at_header true e p = All-push (Fits window len) segments h fit (fits_of window len segments h p e)
    at_header false e p = fit

-- a header h that was read and fails after the segments held, with `count - k` headers of the table left
pub fails_next : (window : Span) (bytes : List ℕ) (entry place count k : ℕ) {segments held : List ProgramHeader}
    {h : ProgramHeader} {e : ImageError} → k < count → held ≡ segments → h ≡ header_at bytes place
    → first_failing (header_tests window (length bytes) held h) ≡ Some e
    → first_failing (tests_from window (length bytes) entry segments (headers_from bytes place (count - k))) ≡ Some e
fails_next window bytes entry place count k {segments} {held} {e} more same read fails =
    let at_segments = ap (λ (xs : List ProgramHeader). first_failing
    (header_tests window (length bytes) xs (header_at bytes place))) same in
    let at_header = ap (λ (x : ProgramHeader). first_failing (header_tests window (length bytes) held x)) read in
    rw (headers_next bytes place count k more)
    (fails_at (header_tests window (length bytes) segments (header_at bytes place))
    (tests_from window (length bytes) entry (with_segment segments (header_at bytes place))
    (headers_from bytes (place + 32) (count - (k + 1)))) e
    (sym at_segments ∙ (sym at_header ∙ fails)))
