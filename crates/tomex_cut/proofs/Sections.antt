-- What a reader finds of the sections of a file with symbols.
use Rattle.std.proofs.Common.{◌≡◌, ℕ, ◌+◌, ◌*◌, ◌^◌, ◌<◌, ◌≤◌, List, [], ◌∷◌, ◌++◌, length, Bool, true, Some, None}
use Rattle.std.proofs.Common.{refl, ◌∙◌, ap, arith, length-append}
use Rattle.std.specs.Prelude.{nat_lt, slice_index, if◌then◌else◌}
use Rattle.std.specs.Cmp.Derive.{both_true}
use Rattle.std.proofs.lemmas.Bool.{eq-eqb, le-leb, lt-ltb}
use Rattle.std.proofs.lemmas.List.{get_or-append-add}
use Rattle.tomex_image.specs.FileHeader.{half_at, word_at}
use Rattle.tomex_image.specs.Loading.{is_elf}
use Rattle.tomex_image.specs.Window.{Span}
use Rattle.tomex_symbols.specs.declared.sections.Section.{Section}
use Rattle.tomex_symbols.specs.declared.sections.Tables.{Tables}
use Rattle.tomex_symbols.specs.Sections.{can_be_read, first_symbol_table, has_sections, header_size, is_string_table}
use Rattle.tomex_symbols.specs.Sections.{lies_in_file, section, section_at, section_count, sections_from, table_offset}
use Rattle.tomex_symbols.specs.Sections.{tables_of, with_names}
use Rattle.tomex_elf.specs.File.{headers}
use Rattle.tomex_cut.specs.SymbolFile.{four_sections, headers_at, names_at, section_headers, symbols_at}
use Rattle.tomex_cut.proofs.Loading.{elf_is, four_bytes}

-- reads after the front of a file

pub byte_past : (xs ys : List ℕ) (j i : ℕ) → j ≡ length xs + i → slice_index (xs ++ ys) j ≡ slice_index ys i
byte_past xs ys j i e = rw e (get_or-append-add xs ys i 0)

pub half_past : (xs ys : List ℕ) (j i : ℕ) → j ≡ length xs + i → half_at (xs ++ ys) j ≡ half_at ys i
half_past xs ys j i e = rw (byte_past xs ys j i e, byte_past xs ys (j + 1) (i + 1) (omega arith)) refl

pub word_past : (xs ys : List ℕ) (j i : ℕ) → j ≡ length xs + i → word_at (xs ++ ys) j ≡ word_at ys i
word_past xs ys j i e = rw (
  byte_past xs ys j i e,
  byte_past xs ys (j + 1) (i + 1) (omega arith),
  byte_past xs ys (j + 2) (i + 2) (omega arith),
  byte_past xs ys (j + 3) (i + 3) (omega arith),
) refl

section_past : (xs ys : List ℕ) (j i : ℕ) → j ≡ length xs + i → section_at (xs ++ ys) j ≡ section_at ys i
section_past xs ys j i e =
    let kind = word_past xs ys (j + 4) (i + 4) (omega arith) in
    let flags = word_past xs ys (j + 8) (i + 8) (omega arith) in
    let offset = word_past xs ys (j + 16) (i + 16) (omega arith) in
    let size = word_past xs ys (j + 20) (i + 20) (omega arith) in
    let link = word_past xs ys (j + 24) (i + 24) (omega arith) in
    let entry_size = word_past xs ys (j + 36) (i + 36) (omega arith) in
    same_section _ _ _ _ _ _ _ _ _ _ _ _ kind flags offset size link entry_size
  where
    same_section : (a b c d e f g h i j k l : ℕ) → a ≡ g → b ≡ h → c ≡ i → d ≡ j → e ≡ k → f ≡ l
        → let x : Section = record { kind = a; flags = b; offset = c; size = d; link = e; entry_size = f } in
        let y : Section = record { kind = g; flags = h; offset = i; size = j; link = k; entry_size = l } in
        x ≡ y
    same_section a b c d e f g h i j k l p q r s t u = rw (p, q, r, s, t, u) refl

-- the four sections

abbrev pub no_section : Section
no_section = record { kind = 0; flags = 0; offset = 0; size = 0; link = 0; entry_size = 0 }

abbrev pub code_section : Span → Section
code_section window = record { kind = 1; flags = 6; offset = 84; size = window.size; link = 0; entry_size = 0 }

abbrev pub symbols_section : Span → ℕ → Section
symbols_section window count = record {
  kind = 2;
  flags = 0;
  offset = symbols_at window;
  size = 16 * (count + 1);
  link = 3;
  entry_size = 16;
}

abbrev pub names_section : Span → ℕ → ℕ → Section
names_section window count size = record {
  kind = 3;
  flags = 0;
  offset = names_at window count;
  size = size + 23;
  link = 0;
  entry_size = 0;
}

code_is : (window : Span) (count locals size : ℕ) (rest : List ℕ) → window.size < 2 ^ 32
    → section_at (section_headers window count locals size ++ rest) 40 ≡ code_section window
code_is window count locals size rest h = rw (four_bytes window.size h) refl

symbols_are : (window : Span) (count locals size : ℕ) (rest : List ℕ) → symbols_at window < 2 ^ 32
    → 16 * (count + 1) < 2 ^ 32
    → section_at (section_headers window count locals size ++ rest) 80 ≡ symbols_section window count
symbols_are window count locals size rest h l =
    rw (four_bytes (symbols_at window) h, four_bytes (16 * (count + 1)) l) refl

names_are : (window : Span) (count locals size : ℕ) (rest : List ℕ) → names_at window count < 2 ^ 32
    → size + 23 < 2 ^ 32
    → section_at (section_headers window count locals size ++ rest) 120 ≡ names_section window count size
names_are window count locals size rest h l =
    rw (four_bytes (names_at window count) h, four_bytes (size + 23) l) refl

-- a file whose section headers say this
pub record HasSections (file : List ℕ) (window : Span) (count size : ℕ) : Type 0 where
  pub elf : is_elf file ≡ true
  pub long : length file ≡ names_at window count + (size + 23)
  pub entry_size : header_size file ≡ 40
  pub offset : table_offset file ≡ headers_at window
  pub four : section_count file ≡ 4
  pub none : section file 0 ≡ no_section
  pub code : section file 1 ≡ code_section window
  pub symbols : section file 2 ≡ symbols_section window count
  pub names : section file 3 ≡ names_section window count size

-- the front of a file with symbols
abbrev pub front : Span → ℕ → List ℕ → List ℕ
front window entry memory = headers window entry (four_sections window) ++ memory

pub front_size : (window : Span) (entry : ℕ) (memory : List ℕ) → length memory ≡ window.size
    → length (front window entry memory) ≡ headers_at window
front_size window entry memory e = omega arith

offset_is : (window : Span) (entry : ℕ) (memory rest : List ℕ) → headers_at window < 2 ^ 32
    → table_offset (front window entry memory ++ rest) ≡ headers_at window
offset_is window entry memory rest h = four_bytes (headers_at window) h

section_is : (window : Span) (entry : ℕ) (memory rest : List ℕ) (k i : ℕ) → length memory ≡ window.size
    → headers_at window < 2 ^ 32 → 40 * k ≡ i → section (front window entry memory ++ rest) k ≡ section_at rest i
section_is window entry memory rest k i e h at =
    ap (λ (o : ℕ). section_at (front window entry memory ++ rest) (o + 40 * k)) (offset_is window entry memory rest h)
    ∙ section_past (front window entry memory) rest (headers_at window + 40 * k) i
    (omega (arith, front_size window entry memory e, at))

pub has_sections_of : (window : Span) (entry : ℕ) (memory rest : List ℕ) (count locals size : ℕ)
    → length memory ≡ window.size → window.size ≤ 2 ^ 20 → count ≤ 2 ^ 24 → size ≤ 2 ^ 28
    → length rest ≡ 16 * (count + 1) + (size + 23)
    → HasSections (front window entry memory ++ (section_headers window count locals size ++ rest)) window count size
has_sections_of window entry memory rest count locals size e small few short long =
    let h : headers_at window < 2 ^ 32 = omega arith in
    let listing = section_headers window count locals size ++ rest in
    record {
      elf = elf_is window entry (four_sections window) (memory ++ listing);
      long = omega (arith, e, long, length-append memory listing);
      entry_size = refl;
      offset = offset_is window entry memory listing h;
      four = refl;
      none = section_is window entry memory listing 0 0 e h refl;
      code = section_is window entry memory listing 1 40 e h refl
          ∙ code_is window count locals size rest (omega arith);
      symbols = section_is window entry memory listing 2 80 e h refl
          ∙ symbols_are window count locals size rest (omega arith) (omega arith);
      names = section_is window entry memory listing 3 120 e h refl
          ∙ names_are window count locals size rest (omega arith) (omega arith);
    }

-- so its tables are found

abbrev pub tables_at : Span → ℕ → ℕ → Tables
tables_at window count size = record {
  symbols = symbols_section window count;
  names = names_section window count size;
}

has_them : (file : List ℕ) (window : Span) (count size : ℕ) → HasSections file window count size
    → has_sections file ≡ true
has_them file window count size h =
    let long : 52 ≤ length file = omega (arith, h.long) in
    let within : table_offset file + 40 * section_count file ≤ length file =
    omega (arith, h.long, h.offset, h.four) in
    both_true
    (both_true (both_true h.elf (le-leb 52 (length file) long)) (eq-eqb (header_size file) 40 h.entry_size))
    (le-leb (table_offset file + 40 * section_count file) (length file) within)

found : (file : List ℕ) (window : Span) (count size : ℕ) → HasSections file window count size
    → first_symbol_table (sections_from file 0 (section_count file)) ≡ Some (symbols_section window count)
found file window count size h =
    ap (λ (n : ℕ). first_symbol_table (sections_from file 0 n)) h.four
    ∙ (ap (λ (s : Section). first_symbol_table (s ∷ section file 1 ∷ section file 2 ∷ section file 3 ∷ [])) h.none
    ∙ (ap (λ (s : Section). first_symbol_table (no_section ∷ s ∷ section file 2 ∷ section file 3 ∷ [])) h.code
    ∙ ap (λ (s : Section). first_symbol_table (no_section ∷ code_section window ∷ s ∷ section file 3 ∷ [])) h.symbols))

readable : (file : List ℕ) (window : Span) (count size : ℕ) → HasSections file window count size
    → can_be_read file (symbols_section window count) ≡ true
readable file window count size h =
    let table : lies_in_file file (symbols_section window count) ≡ true =
    le-leb (symbols_at window + 16 * (count + 1)) (length file) (omega (arith, h.long)) in
    let four : nat_lt 3 (section_count file) ≡ true = lt-ltb 3 (section_count file) (omega (arith, h.four)) in
    let names : is_string_table (section file 3) ≡ true = ap is_string_table h.names in
    let there : lies_in_file file (section file 3) ≡ true = ap (lies_in_file file) h.names
    ∙ le-leb (names_at window count + (size + 23)) (length file) (omega (arith, h.long)) in
    both_true (both_true (both_true (both_true refl table) four) names) there

pub tables_are : (file : List ℕ) (window : Span) (count size : ℕ) → HasSections file window count size
    → tables_of file ≡ Some (tables_at window count size)
tables_are file window count size h =
    let table = symbols_section window count in
    let first = first_symbol_table (sections_from file 0 (section_count file)) in
    ap (λ (b : Bool). if b then with_names file first else None) (has_them file window count size h)
    ∙ (ap (with_names file) (found file window count size h)
    ∙ (ap (λ (b : Bool). if b then Some (record { symbols = table; names = section file 3 }) else None)
    (readable file window count size h)
    ∙ ap (λ (s : Section). Some (record { symbols = table; names = s })) h.names))
