-- The symbols of a file with symbols: those that were put into it.
use Rattle.std.proofs.Common.{◌≡◌, ℕ, suc, ◌+◌, ◌-◌, ◌*◌, ◌/◌, ◌%◌, ◌^◌, ◌<◌, List, [], ◌∷◌, ◌++◌, length}
use Rattle.std.proofs.Common.{Bool, true, false, not, nat_eq, nat_lt, All, Some, None, refl, sym, ◌∙◌, ap, subst, arith}
use Rattle.std.proofs.Common.{append_assoc, length-append, replicate}
use Rattle.std.specs.Prelude.{slice_index, if◌then◌else◌, ◌&&◌}
use Rattle.std.specs.List.{flat_map}
use Rattle.std.specs.Cmp.Derive.{both_true}
use Rattle.std.proofs.lemmas.List.Elements.{All-head, All-tail}
use Rattle.tomex_image.specs.FileHeader.{half_at, word_at}
use Rattle.tomex_image.specs.Window.{Span}
use Rattle.tomex_symbols.specs.declared.sections.Section.{Section}
use Rattle.tomex_symbols.specs.declared.symbol.Binding.{Binding}
use Rattle.tomex_symbols.specs.declared.symbol.Binding.TheVariants.{Global, Weak, Other}
use Rattle.tomex_symbols.specs.declared.symbol.Kind.{Kind}
use Rattle.tomex_symbols.specs.declared.symbol.Kind.TheVariants.{Function, Label}
use Rattle.tomex_symbols.specs.declared.symbol.Symbol.{Symbol}
use Rattle.tomex_symbols.specs.Sections.{has_code, section, section_count}
use Rattle.tomex_symbols.specs.Symbols.{binding_of, counted_at, is_function, is_in_code, is_internal, is_named, kind_at}
use Rattle.tomex_symbols.specs.Symbols.{kind_of, symbol_of_kind, symbols_from, symbols_in, symbols_of}
use Rattle.tomex_cut.specs.SymbolFile.{binding_number, entry_of, info_of, names_at, symbols_at, type_of}
use Rattle.tomex_cut.proofs.Loading.{four_bytes}
use Rattle.tomex_cut.proofs.Sections.{HasSections, byte_past, half_past, names_section, tables_are, tables_at}
use Rattle.tomex_cut.proofs.Sections.{word_past}

-- what becomes of a symbol: its number, its name's place and the names' end are those of the new file
abbrev pub copy_of : Section → ℕ → ℕ → Symbol → Symbol
copy_of names start k s = record {
  number = k;
  address = s.address;
  size = s.size;
  kind = s.kind;
  binding = s.binding;
  name = names.offset + (s.name - start);
  names_end = names.offset + names.size;
}

abbrev pub copies : Section → ℕ → ℕ → List Symbol → List Symbol
copies names start k [] = []
copies names start k (s ∷ ss) = copy_of names start k s ∷ copies names start (k + 1) ss

-- the fields of a symbol are words, and in the new file it has a name that is no internal one of a label
pub record CanBeRead (file : List ℕ) (names : Section) (start : ℕ) (s : Symbol) : Type 0 where
  pub name : s.name - start < 2 ^ 32
  pub address : s.address < 2 ^ 32
  pub size : s.size < 2 ^ 32
  pub named : is_named file names (s.name - start) ≡ true
  pub label : s.kind ≡ Label → is_internal file names (s.name - start) ≡ false

-- `n` is st_info
kind_by : (file : List ℕ) (window : Span) (count size name n : ℕ) (kind : Kind) → HasSections file window count size
    → is_named file (names_section window count size) name ≡ true
    → (kind ≡ Label → is_internal file (names_section window count size) name ≡ false) → n % 16 ≡ type_of kind
    → kind_of file (names_section window count size) name n 1 ≡ Some kind
kind_by file window count size name n Function h named label e =
    let function : is_function n 1 ≡ true = ap (λ (m : ℕ). nat_eq m 2 && not (nat_eq 1 0)) e in
    by (is_named file (names_section window count size) name) (is_function n 1) _ named function
  where
    by : (b f c : Bool) → b ≡ true → f ≡ true
        → (if not b then None else if f then Some Function else if c then Some Label else None) ≡ Some Function
    by b f c p q = rw (p, q) refl
kind_by file window count size name n Label h named label e =
    let function : is_function n 1 ≡ false = ap (λ (m : ℕ). nat_eq m 2 && not (nat_eq 1 0)) e in
    let within : nat_lt 1 (section_count file) ≡ true = ap (λ (m : ℕ). nat_lt 1 m) h.four in
    let code : has_code (section file 1) ≡ true = ap has_code h.code in
    let in_code : is_in_code file n 1 ≡ true =
    both_true (both_true (ap (λ (m : ℕ). nat_eq m 0) e) within) code in
    by (is_named file (names_section window count size) name) (is_function n 1) (is_in_code file n 1)
    (is_internal file (names_section window count size) name) named function in_code (label refl)
  where
    by : (b f c i : Bool) → b ≡ true → f ≡ false → c ≡ true → i ≡ false
        → (if not b then None else if f then Some Function else if c && not i then Some Label else None) ≡ Some Label
    by b f c i p q r t = rw (p, q, r, t) refl

type_is : (binding : Binding) (kind : Kind) → (16 * binding_number binding + type_of kind) % 16 ≡ type_of kind
type_is Global Function = refl
type_is Weak Function = refl
type_is Other Function = refl
type_is Global Label = refl
type_is Weak Label = refl
type_is Other Label = refl

binding_is : (binding : Binding) (kind : Kind) → binding_of (16 * binding_number binding + type_of kind) ≡ binding
binding_is Global Function = refl
binding_is Weak Function = refl
binding_is Other Function = refl
binding_is Global Label = refl
binding_is Weak Label = refl
binding_is Other Label = refl

-- the fields of an entry
pub record HasEntry (file : List ℕ) (i name address size info section : ℕ) : Type 0 where
  pub name_is : word_at file i ≡ name
  pub address_is : word_at file (i + 4) ≡ address
  pub size_is : word_at file (i + 8) ≡ size
  pub info_is : slice_index file (i + 12) ≡ info
  pub section_is : half_at file (i + 14) ≡ section

has_entry : (pre rest : List ℕ) (i start : ℕ) (s : Symbol) → i ≡ length pre → s.name - start < 2 ^ 32
    → s.address < 2 ^ 32 → s.size < 2 ^ 32
    → HasEntry (pre ++ (entry_of start s ++ rest)) i (s.name - start) s.address s.size (info_of s) 1
has_entry pre rest i start s e name address size =
    let entry = entry_of start s ++ rest in
    record {
      name_is = word_past pre entry i 0 (omega arith) ∙ four_bytes (s.name - start) name;
      address_is = word_past pre entry (i + 4) 4 (omega arith) ∙ four_bytes s.address address;
      size_is = word_past pre entry (i + 8) 8 (omega arith) ∙ four_bytes s.size size;
      info_is = byte_past pre entry (i + 12) 12 (omega arith);
      section_is = half_past pre entry (i + 14) 14 (omega arith);
    }

-- the symbol of an entry
symbol_is : (file : List ℕ) (window : Span) (count size start k i : ℕ) (s : Symbol) → HasSections file window count size
    → HasEntry file i (s.name - start) s.address s.size (info_of s) 1
    → CanBeRead file (names_section window count size) start s
    → counted_at file (names_section window count size) k i
    ≡ copy_of (names_section window count size) start k s ∷ []
symbol_is file window count size start k i s h e c =
    let names = names_section window count size in
    let kind : kind_at file names i ≡ Some s.kind =
    ap (λ (n : ℕ). kind_of file names n (slice_index file (i + 12)) (half_at file (i + 14))) e.name_is
    ∙ (ap (λ (n : ℕ). kind_of file names (s.name - start) n (half_at file (i + 14))) e.info_is
    ∙ (ap (λ (n : ℕ). kind_of file names (s.name - start) (info_of s) n) e.section_is
    ∙ kind_by file window count size (s.name - start) (info_of s) s.kind h c.named c.label
    (type_is s.binding s.kind))) in
    let binding : binding_of (slice_index file (i + 12)) ≡ s.binding =
    ap binding_of e.info_is ∙ binding_is s.binding s.kind in
    ap (symbol_of_kind file names k i) kind
    ∙ same (word_at file (i + 4)) (word_at file (i + 8)) (word_at file i) (binding_of (slice_index file (i + 12)))
    e.address_is e.size_is e.name_is binding
  where
    same : (a b n : ℕ) (bind : Binding) → a ≡ s.address → b ≡ s.size → n ≡ s.name - start → bind ≡ s.binding
        → let x : Symbol = record {
          number = k;
          address = a;
          size = b;
          kind = s.kind;
          binding = bind;
          name = names_at window count + n;
          names_end = names_at window count + (size + 23);
        } in
        let ss : List Symbol = x ∷ [] in
        ss ≡ copy_of (names_section window count size) start k s ∷ []
    same a b n bind p q r t = rw (p, q, r, t) refl

-- the entries of some symbols, from number k on, after a part of the file
read_from : (file : List ℕ) (window : Span) (count size start k : ℕ) (ss : List Symbol) (pre tail : List ℕ)
    → HasSections file window count size → file ≡ pre ++ (flat_map (entry_of start) ss ++ tail)
    → length pre ≡ symbols_at window + 16 * k → All (CanBeRead file (names_section window count size) start) ss
    → symbols_from file (tables_at window count size) k (length ss)
    ≡ copies (names_section window count size) start k ss
read_from file window count size start k [] pre tail h e at all = refl
read_from file window count size start k (s ∷ ss) pre tail h e at all =
    let names = names_section window count size in
    let one = All-head (CanBeRead file names start) s ss all in
    let rest = flat_map (entry_of start) ss ++ tail in
    let i = symbols_at window + 16 * k in
    let split : file ≡ pre ++ (entry_of start s ++ rest) =
    e ∙ ap (λ (x : List ℕ). pre ++ x) (append_assoc (entry_of start s) (flat_map (entry_of start) ss) tail) in
    let further : file ≡ (pre ++ entry_of start s) ++ rest =
    split ∙ sym (append_assoc pre (entry_of start s) rest) in
    let entry : HasEntry file i (s.name - start) s.address s.size (info_of s) 1 =
    subst (λ (f : List ℕ). HasEntry f i (s.name - start) s.address s.size (info_of s) 1) (sym split)
    (has_entry pre rest i start s (sym at) one.name one.address one.size) in
    let first = symbol_is file window count size start k i s h entry one in
    let more = read_from file window count size start (k + 1) ss (pre ++ entry_of start s) tail h further
    (omega (arith, at, length-append pre (entry_of start s))) (All-tail (CanBeRead file names start) s ss all) in
    ap (λ (xs : List Symbol). xs ++ symbols_from file (tables_at window count size) (k + 1) (length ss)) first
    ∙ ap (λ (xs : List Symbol). copy_of names start k s ∷ xs) more

-- the entry of zeros doesn't count: section 0 has no code
null_by : (b c i : Bool) → c ≡ false
    → (if not b then None else if false then Some Function else if c && not i then Some Label else None) ≡ None
null_by true c i e = rw e refl
null_by false c i e = refl

none_counted : (file : List ℕ) (names : Section) (k i : ℕ) → section_count file ≡ 4 → has_code (section file 0) ≡ false
    → slice_index file (i + 12) ≡ 0 → half_at file (i + 14) ≡ 0 → counted_at file names k i ≡ []
none_counted file names k i four none info shndx =
    let name = word_at file i in
    let code : is_in_code file 0 0 ≡ false =
    ap (λ (n : ℕ). nat_lt 0 n && has_code (section file 0)) four ∙ none in
    let kind : kind_at file names i ≡ None =
    ap (λ (n : ℕ). kind_of file names name n (half_at file (i + 14))) info
    ∙ (ap (λ (n : ℕ). kind_of file names name 0 n) shndx
    ∙ null_by (is_named file names name) (is_in_code file 0 0) (is_internal file names name) code) in
    ap (symbol_of_kind file names k i) kind

-- all symbols of the file: those that were put into it, from number 1 on
pub read_all : (file : List ℕ) (window : Span) (size start : ℕ) (ss : List Symbol) (pre tail : List ℕ)
    → HasSections file window (length ss) size
    → file ≡ pre ++ (replicate 16 0 ++ (flat_map (entry_of start) ss ++ tail)) → length pre ≡ symbols_at window
    → All (CanBeRead file (names_section window (length ss) size) start) ss
    → symbols_of file ≡ copies (names_section window (length ss) size) start 1 ss
read_all file window size start ss pre tail h e at all =
    let count = length ss in
    let t = tables_at window count size in
    let i = symbols_at window + 16 * 0 in
    let rest = flat_map (entry_of start) ss ++ tail in
    let zeros : List ℕ = replicate 16 0 in
    let info : slice_index file (i + 12) ≡ 0 =
    ap (λ (f : List ℕ). slice_index f (i + 12)) e ∙ byte_past pre (zeros ++ rest) (i + 12) 12 (omega (arith, at)) in
    let shndx : half_at file (i + 14) ≡ 0 =
    ap (λ (f : List ℕ). half_at f (i + 14)) e ∙ half_past pre (zeros ++ rest) (i + 14) 14 (omega (arith, at)) in
    let none = none_counted file t.names 0 i h.four (ap has_code h.none) info shndx in
    let further : file ≡ (pre ++ zeros) ++ rest = e ∙ sym (append_assoc pre zeros rest) in
    let more = read_from file window count size start 1 ss (pre ++ zeros) tail h further
    (omega (arith, at, length-append pre zeros)) all in
    let entries : 16 * (count + 1) / 16 ≡ suc count = omega arith in
    ap (symbols_in file) (tables_are file window count size h)
    ∙ (ap (symbols_from file t 0) entries
    ∙ (ap (λ (xs : List Symbol). xs ++ symbols_from file t 1 count) none ∙ more))
