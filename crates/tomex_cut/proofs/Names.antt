-- The names of symbols, copied into a file with symbols as they are: a zero byte comes after them.
use Rattle.std.proofs.Common.{◌≡◌, ℕ, ◌+◌, ◌-◌, ◌^◌, ◌<◌, ◌≤◌, inl, inr, List, [], ◌∷◌, ◌++◌, length, take, drop}
use Rattle.std.proofs.Common.{Bool, true, false, not, nat_eq, nat_lt, refl, sym, ◌∙◌, ap, arith, length-append}
use Rattle.std.specs.Prelude.{slice_index, if◌then◌else◌, ◌&&◌, ◌||◌}
use Rattle.std.specs.Cmp.Derive.{both_true}
use Rattle.std.proofs.lemmas.Bool.{cases_lt, le-ltb, lt-ltb}
use Rattle.std.proofs.lemmas.List.{drop-append-le, drop-drop, drop-take, get_or-drop, get_or-take}
use Rattle.std.proofs.lemmas.List.{length-drop, length-take, take_all}
use Rattle.std.proofs.Math.ListN.{get_or-append}
use Rattle.std.proofs.Math.Seq.{drop-append-add}
use Rattle.tomex_image.specs.FileHeader.{word_at}
use Rattle.tomex_symbols.specs.declared.sections.Section.{Section}
use Rattle.tomex_symbols.specs.declared.symbol.Symbol.{Symbol}
use Rattle.tomex_symbols.specs.Names.{name_of, until_zero}
use Rattle.tomex_symbols.specs.Symbols.{is_internal, is_named, name_place}
use Rattle.tomex_cut.specs.Laws.{IsAlike}
use Rattle.tomex_cut.specs.SymbolFile.{section_names}
use Rattle.tomex_cut.proofs.Copies.{CanBeRead, copy_of}
use Rattle.tomex_cut.proofs.Counted.{IsCounted, name_inside}
use Rattle.tomex_cut.proofs.Rooms.{both}
use Rattle.tomex_cut.proofs.Sections.{byte_past}

-- a file has the names of another file, and those of the sections after them
pub record HasNames (bytes : List ℕ) (old : Section) (file : List ℕ) (new : Section) : Type 0 where
  pub before : List ℕ
  pub split : file ≡ before ++ (take old.size (drop old.offset bytes) ++ section_names)
  pub at : new.offset ≡ length before
  pub size : new.size ≡ old.size + 23
  pub inside : old.offset + old.size ≤ length bytes

names_length : (bytes : List ℕ) (old : Section) → old.offset + old.size ≤ length bytes
    → length (take old.size (drop old.offset bytes)) ≡ old.size
names_length bytes old h =
    omega (arith, length-take old.size (drop old.offset bytes), length-drop old.offset bytes)

byte_same : (bytes : List ℕ) (old : Section) (file : List ℕ) (new : Section) (n : ℕ) → HasNames bytes old file new
    → n < old.size → slice_index file (new.offset + n) ≡ slice_index bytes (old.offset + n)
byte_same bytes old file new n h l =
    let names = take old.size (drop old.offset bytes) in
    ap (λ (f : List ℕ). slice_index f (new.offset + n)) h.split
    ∙ (byte_past h.before (names ++ section_names) (new.offset + n) n (omega (arith, h.at))
    ∙ (get_or-append names section_names 0 n (omega (arith, names_length bytes old h.inside))
    ∙ (get_or-take old.size (drop old.offset bytes) n 0 l ∙ get_or-drop old.offset bytes n 0)))

-- the byte after the names
byte_behind : (bytes : List ℕ) (old : Section) (file : List ℕ) (new : Section) (n : ℕ) → HasNames bytes old file new
    → n ≡ old.size → slice_index file (new.offset + n) ≡ 0
byte_behind bytes old file new n h e =
    let names = take old.size (drop old.offset bytes) in
    ap (λ (f : List ℕ). slice_index f (new.offset + n)) h.split
    ∙ (byte_past h.before (names ++ section_names) (new.offset + n) n (omega (arith, h.at))
    ∙ byte_past names section_names n 0 (omega (arith, e, names_length bytes old h.inside)))

still_named : (bytes : List ℕ) (old : Section) (file : List ℕ) (new : Section) (n : ℕ) → HasNames bytes old file new
    → n < old.size → is_named bytes old n ≡ true → is_named file new n ≡ true
still_named bytes old file new n h l e =
    let first = both (nat_lt n old.size) (not (nat_eq (slice_index bytes (name_place old n)) 0)) e in
    both_true (lt-ltb n new.size (omega (arith, h.size, l)))
    (ap (λ (b : ℕ). not (nat_eq b 0)) (byte_same bytes old file new n h l) ∙ first.1)

-- over tests: no name begins with the last byte and the zero byte after it
ends_apart : (x y m c : Bool) → (x || y && false && c) ≡ false → (x || y && m && false) ≡ false
ends_apart true y m c e = absurd (cc)
ends_apart false true true c e = refl
ends_apart false true false c e = refl
ends_apart false false m c e = refl

still_apart : (bytes : List ℕ) (old : Section) (file : List ℕ) (new : Section) (n : ℕ) → HasNames bytes old file new
    → n < old.size → is_internal bytes old n ≡ false → is_internal file new n ≡ false
still_apart bytes old file new n h l e =
    let next : new.offset + n + 1 ≡ new.offset + (n + 1) = omega arith in
    let next_old : old.offset + n + 1 ≡ old.offset + (n + 1) = omega arith in
    let first : slice_index file (name_place new n) ≡ slice_index bytes (name_place old n) =
    byte_same bytes old file new n h l in
    let a = slice_index bytes (name_place old n) in
    let start : is_internal file new n
    ≡ (nat_eq a 0x24 || nat_eq a 0x2e && nat_lt (n + 1) new.size
    && nat_eq (slice_index file (name_place new n + 1)) 0x4c) =
    ap (λ (b : ℕ). nat_eq b 0x24 || nat_eq b 0x2e && nat_lt (n + 1) new.size
    && nat_eq (slice_index file (name_place new n + 1)) 0x4c) first in
    elim (cases_lt (n + 1) old.size) [
      | inl m ↦
          let second : slice_index file (name_place new n + 1) ≡ slice_index bytes (name_place old n + 1) =
          ap (slice_index file) next
          ∙ (byte_same bytes old file new (n + 1) h m ∙ ap (slice_index bytes) (sym next_old)) in
          let within : nat_lt (n + 1) new.size ≡ nat_lt (n + 1) old.size =
          lt-ltb (n + 1) new.size (omega (arith, h.size, m)) ∙ sym (lt-ltb (n + 1) old.size m) in
          start
          ∙ (ap (λ (w : Bool). nat_eq a 0x24 || nat_eq a 0x2e && w
          && nat_eq (slice_index file (name_place new n + 1)) 0x4c) within
          ∙ (ap (λ (b : ℕ). nat_eq a 0x24 || nat_eq a 0x2e && nat_lt (n + 1) old.size && nat_eq b 0x4c) second ∙ e))
      | inr m ↦
          let last : n + 1 ≡ old.size = omega (arith, l, m) in
          let second : slice_index file (name_place new n + 1) ≡ 0 =
          ap (slice_index file) next ∙ byte_behind bytes old file new (n + 1) h last in
          let beyond : nat_lt (n + 1) old.size ≡ false = le-ltb (n + 1) old.size m in
          let before : (nat_eq a 0x24 || nat_eq a 0x2e && false
          && nat_eq (slice_index bytes (name_place old n + 1)) 0x4c) ≡ false =
          ap (λ (w : Bool). nat_eq a 0x24 || nat_eq a 0x2e && w
          && nat_eq (slice_index bytes (name_place old n + 1)) 0x4c) (sym beyond) ∙ e in
          start
          ∙ (ap (λ (b : ℕ). nat_eq a 0x24 || nat_eq a 0x2e && nat_lt (n + 1) new.size && nat_eq b 0x4c) second
          ∙ ends_apart (nat_eq a 0x24) (nat_eq a 0x2e) (nat_lt (n + 1) new.size) _ before)
    ]

-- a string that ends with a list ends before a zero byte after it, too
until_zero-append : (xs ys : List ℕ) → until_zero (xs ++ 0 ∷ ys) ≡ until_zero xs
until_zero-append [] ys = refl
until_zero-append (x ∷ xs) ys =
    ap (λ (r : List ℕ). if nat_eq x 0 then [] else x ∷ r) (until_zero-append xs ys)

name_same : (bytes : List ℕ) (old : Section) (file : List ℕ) (new : Section) (start k n : ℕ) (s : Symbol)
    → HasNames bytes old file new → start ≡ old.offset → s.name ≡ old.offset + n → s.names_end ≡ old.offset + old.size
    → n < old.size → name_of file (copy_of new start k s) ≡ name_of bytes s
name_same bytes old file new start k n s h at is end l =
    let names = take old.size (drop old.offset bytes) in
    let count = names_length bytes old h.inside in
    let place : new.offset + (s.name - start) ≡ length h.before + n = omega (arith, h.at, at, is) in
    let dropped : drop (new.offset + (s.name - start)) file ≡ drop n names ++ section_names =
    ap (λ (f : List ℕ). drop (new.offset + (s.name - start)) f) h.split
    ∙ (ap (λ (p : ℕ). drop p (h.before ++ (names ++ section_names))) place
    ∙ (drop-append-add h.before (names ++ section_names) n
    ∙ drop-append-le n names section_names (omega (arith, count, l)))) in
    let room = new.offset + new.size - (new.offset + (s.name - start)) in
    let fits : length (drop n names ++ section_names) ≤ room =
    omega (arith, length-append (drop n names) section_names, length-drop n names, count, h.size, at, is, l) in
    let left : s.names_end - s.name ≡ old.size - n = omega (arith, is, end) in
    let part : drop n names ≡ take (s.names_end - s.name) (drop s.name bytes) =
    let size : old.size ≡ n + (old.size - n) = omega (arith, l) in
    ap (λ (m : ℕ). drop n (take m (drop old.offset bytes))) size
    ∙ (drop-take n (old.size - n) (drop old.offset bytes)
    ∙ (ap (take (old.size - n)) (drop-drop n old.offset bytes)
    ∙ (ap (λ (m : ℕ). take m (drop (old.offset + n) bytes)) (sym left)
    ∙ ap (λ (p : ℕ). take (s.names_end - s.name) (drop p bytes)) (sym is)))) in
    ap (λ (x : List ℕ). until_zero (take room x)) dropped
    ∙ (ap until_zero (take_all room (drop n names ++ section_names) fits)
    ∙ (until_zero-append (drop n names) _ ∙ ap until_zero part))

word_small : (bytes : List ℕ) (i : ℕ) → ((k : ℕ) → slice_index bytes k < 256) → word_at bytes i < 2 ^ 32
word_small bytes i h = omega (arith, h i, h (i + 1), h (i + 2), h (i + 3))

-- so a symbol that counts is read from the new file, and is alike
pub still_read : (bytes : List ℕ) (old : Section) (file : List ℕ) (new : Section) (s : Symbol)
    → ((k : ℕ) → slice_index bytes k < 256) → HasNames bytes old file new → IsCounted bytes old s
    → CanBeRead file new old.offset s
still_read bytes old file new s small h c =
    let n = word_at bytes c.at in
    let l = name_inside bytes old s c in
    let name : s.name - old.offset ≡ n = omega (arith, c.name) in
    record {
      name = omega (arith, name, word_small bytes c.at small);
      address = omega (arith, c.address, word_small bytes (c.at + 4) small);
      size = omega (arith, c.size, word_small bytes (c.at + 8) small);
      named = ap (is_named file new) name ∙ still_named bytes old file new n h l c.counts.named;
      label = λ e. ap (is_internal file new) name ∙ still_apart bytes old file new n h l (c.counts.label e);
    }

pub still_alike : (bytes : List ℕ) (old : Section) (file : List ℕ) (new : Section) (k : ℕ) (s : Symbol)
    → HasNames bytes old file new → IsCounted bytes old s
    → IsAlike bytes s file (copy_of new old.offset k s)
still_alike bytes old file new k s h c = record {
  address = refl;
  size = refl;
  kind = refl;
  binding = refl;
  name = name_same bytes old file new old.offset k (word_at bytes c.at) s h refl c.name c.end
      (name_inside bytes old s c);
}
