-- The file of a cut, loaded.
use Rattle.std.proofs.Common.{◌≡◌, ℕ, ◌+◌, ◌-◌, ◌*◌, ◌/◌, ◌%◌, ◌^◌, ◌<◌, ◌≤◌, List, [], ◌∷◌, ◌++◌, length, Bool, true}
use Rattle.std.proofs.Common.{None}
use Rattle.std.proofs.Common.{refl, sym, ◌∙◌, ap, subst, arith, eq-eqb, length-append, append-nil}
use Rattle.std.specs.Prelude.{MatchBool, nat_le, nat_lt, slice_index, ◌&&◌}
use Rattle.std.proofs.lemmas.Bool.{and_from, le-leb, le-ltb, lt-ltb}
use Rattle.std.proofs.lemmas.List.{ext_get_or, get_or-append-add}
use Rattle.std.proofs.Math.ListN.{get_or-append}
use Rattle.tomex_cut.specs.Cut.{IsCut, IsCutWithSymbols}
use Rattle.tomex_elf.specs.declared.file.SectionTable.{SectionTable}
use Rattle.tomex_elf.specs.File.{headers, no_sections}
use Rattle.tomex_cut.specs.SymbolFile.{four_sections, listing, names_in, start_in}
use Rattle.tomex_symbols.specs.Sections.{tables_of}
use Rattle.tomex_symbols.specs.Symbols.{symbols_of}
use Rattle.tomex_cut.specs.Laws.{IsImageOf}
use Rattle.tomex_image.specs.declared.elf.program_header.ProgramHeader.{ProgramHeader}
use Rattle.tomex_image.specs.ElfTests.{elf_tests, tests_from}
use Rattle.tomex_image.specs.FileHeader.{entry_of}
use Rattle.tomex_image.specs.Image.{IsLoaded, Loaded}
use Rattle.tomex_image.specs.Loading.{IsPlaced, IsPlacedElf, IsPlacedFlat, is_elf, refused}
use Rattle.tomex_image.specs.Placing.{byte_of}
use Rattle.tomex_image.specs.ProgramHeader.{header_at, segments_from, segments_of}
use Rattle.tomex_image.specs.Tests.{first_failing}
use Rattle.tomex_image.specs.Window.{IsWindow, Span}
use Rattle.tomex_rvexec.specs.Machine.{base_of}
use Rattle.tomex_rvexec.specs.Run.{start_of}
use Rattle.tomex_rvexec.proofs.FlowStates.{start_state}
use Rattle.tomex_cut.proofs.First.{ends_first}
use Rattle.tomex_cut.proofs.Fitting.{fits}
use Rattle.tomex_cut.proofs.Walks.{after_keeps}

pub four_bytes : (v : ℕ) → v < 2 ^ 32
    → v % 256 + 256 * (v / 256 % 256) + 65536 * (v / 65536 % 256) + 16777216 * (v / 16777216 % 256) ≡ v
four_bytes v h = omega arith

-- a file with both headers, whatever they say of sections, and with bytes after them
abbrev headed : Span → ℕ → SectionTable → List ℕ → List ℕ
headed window entry t m = headers window entry t ++ m

-- the segment
whole : Span → ProgramHeader
whole window = record {
  kind = 1;
  offset = 84;
  address = window.base;
  file_size = window.size;
  memory_size = window.size;
}

header_is : (window : Span) (entry : ℕ) (t : SectionTable) (m : List ℕ) → window.base < 2 ^ 32 → window.size < 2 ^ 32
    → header_at (headed window entry t m) 52 ≡ whole window
unfolding whole
header_is window entry t m base size = rw (four_bytes window.base base, four_bytes window.size size) refl

entry_is : (window : Span) (entry : ℕ) (t : SectionTable) (m : List ℕ) → entry < 2 ^ 32
    → entry_of (headed window entry t m) ≡ entry
entry_is window entry t m h = four_bytes entry h

length_is : (window : Span) (entry : ℕ) (t : SectionTable) (m : List ℕ)
    → length (headed window entry t m) ≡ 84 + length m
length_is window entry t m = omega arith

pub elf_is : (window : Span) (entry : ℕ) (t : SectionTable) (m : List ℕ) → is_elf (headed window entry t m) ≡ true
elf_is window entry t m =
    rw (lt-ltb 3 (length (headed window entry t m)) (omega (arith, length_is window entry t m))) refl

segment_passes : (window : Span) (len entry : ℕ) → 84 + window.size ≤ len → 0 < window.size → entry % 4 ≡ 0
    → window.base ≤ entry → entry + 4 ≤ window.base + window.size
    → first_failing (tests_from window len entry [] (whole window ∷ [])) ≡ None
unfolding whole
segment_passes window len entry e some word low high =
    simp (
      le-ltb window.size window.size (omega arith),
      lt-ltb 0 window.size some,
      le-ltb len (84 + window.size) (omega arith),
      le-leb window.base window.base (omega arith),
      le-leb (window.base + window.size) (window.base + window.size) (omega arith),
      eq-eqb (entry % 4) 0 word,
      le-leb window.base entry low,
      le-leb (entry + 4) (window.base + window.size) high,
    )

-- the file header passes
header_passes : (window : Span) (entry : ℕ) (t : SectionTable) (m : List ℕ)
    → first_failing (elf_tests (headed window entry t m) window)
    ≡ first_failing (tests_from window (length (headed window entry t m)) (entry_of (headed window entry t m)) []
    (header_at (headed window entry t m) 52 ∷ []))
header_passes window entry t m =
    let len = length_is window entry t m in
    rw (
      le-ltb (length (headed window entry t m)) 52 (omega (arith, len)),
      le-ltb (length (headed window entry t m)) 84 (omega (arith, len)),
    ) refl

file_passes : (window : Span) (entry : ℕ) (t : SectionTable) (m : List ℕ) → IsWindow window.base window.size
    → window.size ≤ length m
    → entry % 4 ≡ 0 → window.base ≤ entry → entry + 4 ≤ window.base + window.size
    → first_failing (elf_tests (headed window entry t m) window) ≡ None
file_passes window entry t m limits size word low high =
    let len = length_is window entry t m in
    let small : entry < 2 ^ 32 = omega (arith, limits.within) in
    let base : window.base < 2 ^ 32 = omega (arith, limits.within, limits.least) in
    let bytes : window.size < 2 ^ 32 = omega (arith, limits.most) in
    header_passes window entry t m
    ∙ (ap (λ (h : ProgramHeader). first_failing (tests_from window (length (headed window entry t m))
    (entry_of (headed window entry t m)) [] (h ∷ []))) (header_is window entry t m base bytes)
    ∙ (ap (λ (e : ℕ). first_failing (tests_from window (length (headed window entry t m)) e [] (whole window ∷ [])))
    (entry_is window entry t m small)
    ∙ segment_passes window (length (headed window entry t m)) entry (omega (arith, len, size))
    (omega (arith, limits.least)) word low high))

accepted : (window : Span) (entry : ℕ) (t : SectionTable) (m : List ℕ) → IsWindow window.base window.size
    → window.size ≤ length m
    → entry % 4 ≡ 0 → window.base ≤ entry → entry + 4 ≤ window.base + window.size
    → refused (headed window entry t m) window ≡ None
accepted window entry t m limits size word low high =
    rw (elf_is window entry t m) (file_passes window entry t m limits size word low high)

kept : (window : Span) → 0 < window.size → segments_from [] (whole window ∷ []) ≡ whole window ∷ []
unfolding whole
kept window some = rw (lt-ltb 0 window.size some) refl

segments_are : (window : Span) (entry : ℕ) (t : SectionTable) (m : List ℕ) → IsWindow window.base window.size
    → segments_of (headed window entry t m) ≡ whole window ∷ []
segments_are window entry t m limits =
    let base : window.base < 2 ^ 32 = omega (arith, limits.within, limits.least) in
    let bytes : window.size < 2 ^ 32 = omega (arith, limits.most) in
    ap (λ (h : ProgramHeader). segments_from [] (h ∷ [])) (header_is window entry t m base bytes)
    ∙ kept window (omega (arith, limits.least))

byte_is : (window : Span) (entry : ℕ) (t : SectionTable) (m : List ℕ) (k : ℕ) → k < window.size
    → byte_of (headed window entry t m) (whole window ∷ []) (window.base + k) ≡ slice_index m k
unfolding whole
byte_is window entry t m k h =
    let in_it : (nat_le window.base (window.base + k) && nat_lt (window.base + k) (window.base + window.size)) ≡ true =
    and_from (nat_le window.base (window.base + k)) (nat_lt (window.base + k) (window.base + window.size))
    (le-leb window.base (window.base + k) (omega arith))
    (lt-ltb (window.base + k) (window.base + window.size) (omega arith)) in
    let at : 84 + (window.base + k - window.base) ≡ 84 + k = omega arith in
    rw (in_it, at) (get_or-append-add (headers window entry t) m k 0)

placed : (bytes : List ℕ) (window : Span) (j : Loaded) → is_elf bytes ≡ true → IsPlaced bytes window j
    → IsPlacedElf bytes window j
placed bytes window j elf is =
    subst (λ (b : Bool). MatchBool b (IsPlacedElf bytes window j) (IsPlacedFlat bytes window j)) elf is

same_image : (j : Loaded) (window : Span) (m : List ℕ) (entry : ℕ) → j.window ≡ window → j.memory ≡ m → j.entry ≡ entry
    → j ≡ record { window = window; memory = m; entry = entry }
same_image j window m entry e f g =
    ap (λ (w : Span). record { window = w; memory = j.memory; entry = j.entry }) e
    ∙ (ap (λ (bytes : List ℕ). record { window = window; memory = bytes; entry = j.entry }) f
    ∙ ap (λ (a : ℕ). record { window = window; memory = m; entry = a }) g)

image_is : (window : Span) (entry : ℕ) (t : SectionTable) (memory rest : List ℕ) (j : Loaded)
    → IsWindow window.base window.size → length memory ≡ window.size → entry < 2 ^ 32
    → IsPlaced (headed window entry t (memory ++ rest)) window j
    → j ≡ record { window = window; memory = memory; entry = entry }
image_is window entry t memory rest j limits size small is =
    let m = memory ++ rest in
    let p = placed (headed window entry t m) window j (elf_is window entry t m) is in
    let same : j.memory ≡ memory = ext_get_or 0 j.memory memory (p.1 ∙ sym size) (λ k h.
    let inside : k < window.size = omega (arith, p.1) in
    p.2 k inside
    ∙ (ap (λ (hs : List ProgramHeader). byte_of (headed window entry t m) hs (window.base + k))
    (segments_are window entry t m limits)
    ∙ (byte_is window entry t m k inside ∙ get_or-append memory rest 0 k (omega arith)))) in
    let at : j.entry ≡ entry = p.3 ∙ entry_is window entry t m small in
    same_image j window memory entry p.0 same at

-- a cut's place and memory fit the window
record FitsWindow (i : Loaded) (place : ℕ) (memory : List ℕ) : Type 0 where
  size : length memory ≡ i.window.size
  word : place % 4 ≡ 0
  low : i.window.base ≤ place
  high : place + 4 ≤ i.window.base + i.window.size

fits_window : (i : Loaded) (from least : ℕ) (file : List ℕ) → IsWindow i.window.base i.window.size
    → IsLoaded i.window i.memory i.entry → (c : IsCut i from least file) → FitsWindow i c.place c.memory.bytes
fits_window i from least file limits loaded c =
    let first = ends_first i from least c.part c.is_part in
    let keeps = after_keeps (from - 1) (start_of i) c.part.start (start_state i loaded) first.reached in
    let window : i.window ≡ c.part.start.image.window = ap (λ (j : Loaded). j.window) (sym keeps.image) in
    let limits_there : IsWindow c.part.start.image.window.base c.part.start.image.window.size =
    subst (λ (w : Span). IsWindow w.base w.size) window limits in
    let fit = fits c.part c.hook c.place keeps.state limits_there c.is_hook c.is_place in
    let base : base_of c.part.start ≡ i.window.base = ap (λ (w : Span). w.base) (sym window) in
    let count : length c.part.start.memory ≡ i.window.size =
    keeps.state.filled ∙ ap (λ (w : Span). w.size) (sym window) in
    record {
      size = c.is_memory.size ∙ count;
      word = fit.on_place.word;
      low = omega (arith, base, fit.on_place.above);
      high = omega (arith, base, count, fit.on_place.below);
    }

pub memory_fills : (i : Loaded) (from least : ℕ) (file : List ℕ) → IsWindow i.window.base i.window.size
    → IsLoaded i.window i.memory i.entry → (c : IsCut i from least file) → length c.memory.bytes ≡ i.window.size
memory_fills i from least file limits loaded c = (fits_window i from least file limits loaded c).size

-- a cut's memory after both headers, and whatever comes after it
whole_memory : (i : Loaded) (from least : ℕ) (file : List ℕ) → IsWindow i.window.base i.window.size
    → IsLoaded i.window i.memory i.entry → (c : IsCut i from least file) (t : SectionTable) (rest : List ℕ)
    → IsImageOf (headed i.window c.place t (c.memory.bytes ++ rest)) i.window c.memory.bytes c.place
whole_memory i from least file limits loaded c t rest =
    let fit = fits_window i from least file limits loaded c in
    let enough : i.window.size ≤ length (c.memory.bytes ++ rest) =
    omega (arith, fit.size, length-append c.memory.bytes rest) in
    let small : c.place < 2 ^ 32 = omega (arith, fit.high, limits.within) in
    record {
      accepted = accepted i.window c.place t (c.memory.bytes ++ rest) limits enough fit.word fit.low fit.high;
      is = λ j is. image_is i.window c.place t c.memory.bytes rest j limits fit.size small is;
    }

-- a cut's file has a whole memory, and its entry is a word of it
pub loads : (i : Loaded) (from least : ℕ) (file : List ℕ) → IsWindow i.window.base i.window.size
    → IsLoaded i.window i.memory i.entry → (c : IsCut i from least file)
    → IsImageOf file i.window c.memory.bytes c.place
loads i from least file limits loaded c =
    let same : headed i.window c.place no_sections (c.memory.bytes ++ []) ≡ file =
    ap (λ (m : List ℕ). headed i.window c.place no_sections m) (append-nil c.memory.bytes) ∙ sym c.is_file in
    subst (λ (f : List ℕ). IsImageOf f i.window c.memory.bytes c.place) same
    (whole_memory i from least file limits loaded c no_sections [])

-- so does the file with symbols
pub loads_with_symbols : (i : Loaded) (bytes : List ℕ) (from least : ℕ) (file : List ℕ)
    → IsWindow i.window.base i.window.size → IsLoaded i.window i.memory i.entry
    → (c : IsCutWithSymbols i bytes from least file)
    → IsImageOf file i.window c.cut.memory.bytes c.cut.place
loads_with_symbols i bytes from least file limits loaded c =
    subst (λ (f : List ℕ). IsImageOf f i.window c.cut.memory.bytes c.cut.place) (sym c.is_file)
    (whole_memory i from least c.without limits loaded c.cut (four_sections i.window)
    (listing i.window (symbols_of bytes) (start_in (tables_of bytes)) (names_in bytes (tables_of bytes))))
