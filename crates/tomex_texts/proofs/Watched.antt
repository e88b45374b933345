-- The bytes of watched ranges, one range after another.
use Rattle.std.proofs.Common.{◌≡◌, ℕ, ◌+◌, ◌-◌, ◌≤◌, nat_le, ◌&&◌, Bool, true, false, List, [], ◌∷◌, ◌++◌, length, map}
use Rattle.std.proofs.Common.{take, drop, All, refl, sym, ap, ◌∙◌, arith, length-append}
use Rattle.std.specs.Prelude.{codes}
use Rattle.std.specs.List.{flat_map}
use Rattle.std.proofs.lemmas.Bool.{leb-true}
use Rattle.std.proofs.lemmas.List.{length-take-le, length-drop}
use Rattle.std.proofs.lemmas.List.Elements.{All-head, All-tail}
use Rattle.std.proofs.lemmas.List.Sums.{sum_by-cons}
use Rattle.std.proofs.Math.Seq.{take-append_seam, drop-append_seam}
use Rattle.tomex_image.specs.Window.{Span}
use Rattle.tomex_rvdec.specs.Text.{hex8}
use Rattle.tomex_rvexec.specs.Texts.{hex2}
use Rattle.tomex_study.specs.Watch.{is_watchable, watched_bytes}
use Rattle.tomex_study.specs.declared.watch.WatchRange.{WatchRange}
use Rattle.tomex_texts.specs.Ends.{bytes_at}
use Rattle.tomex_texts.specs.FrontReport.{watch_text, watch_texts}

first_of : (a b : Bool) → (a && b) ≡ true → a ≡ true
first_of true b e = refl
first_of false b e = e

second_of : (a b : Bool) → (a && b) ≡ true → b ≡ true
second_of true b e = e
second_of false true e = refl
second_of false false e = e

-- a range lies in a window
pub record LiesIn (base size : ℕ) (range : WatchRange) : Type 0 where
  pub low : base ≤ range.address
  pub high : range.address + range.length ≤ base + size

pub lies_in : (window : Span) (range : WatchRange) → is_watchable window range ≡ true
    → LiesIn window.base window.size range
lies_in window range is =
    let inside = second_of (nat_le 1 range.length)
    (nat_le window.base range.address && nat_le (range.address + range.length) (window.base + window.size)) is in
    record {
      low = leb-true window.base range.address
          (first_of (nat_le window.base range.address)
          (nat_le (range.address + range.length) (window.base + window.size)) inside);
      high = leb-true (range.address + range.length) (window.base + window.size)
          (second_of (nat_le window.base range.address)
          (nat_le (range.address + range.length) (window.base + window.size)) inside);
    }

long : (window : Span) (memory : List ℕ) (range : WatchRange) → length memory ≡ window.size
    → is_watchable window range ≡ true → length (bytes_at window.base memory range) ≡ range.length
long window memory range fills is =
    let lies = lies_in window range is in
    let low = lies.low in
    let high = lies.high in
    let left = length-drop (range.address - window.base) memory in
    length-take-le range.length (drop (range.address - window.base) memory) (omega (arith, fills, low, high, left))

pub bytes_long : (window : Span) (memory : List ℕ) (ranges : List WatchRange) → length memory ≡ window.size
    → All (λ r. is_watchable window r ≡ true) ranges → length (flat_map (bytes_at window.base memory) ranges)
    ≡ watched_bytes ranges
bytes_long window memory [] fills are = refl
bytes_long window memory (r ∷ rs) fills are =
    let own = long window memory r fills (All-head (λ r. is_watchable window r ≡ true) r rs are) in
    let ih = bytes_long window memory rs fills (All-tail (λ r. is_watchable window r ≡ true) r rs are) in
    let both = length-append (bytes_at window.base memory r) (flat_map (bytes_at window.base memory) rs) in
    both ∙ (ap (λ (n : ℕ). n + length (flat_map (bytes_at window.base memory) rs)) own
    ∙ (ap (λ (n : ℕ). r.length + n) ih ∙ sym (sum_by-cons (λ (q : WatchRange). q.length) r rs)))

taken : (n : ℕ) (xs ys : List ℕ) → length xs ≡ n → take n (xs ++ ys) ≡ xs
taken n xs ys e = ap (λ (k : ℕ). take k (xs ++ ys)) (sym e) ∙ take-append_seam xs ys

dropped : (n : ℕ) (xs ys : List ℕ) → length xs ≡ n → drop n (xs ++ ys) ≡ ys
dropped n xs ys e = ap (λ (k : ℕ). drop k (xs ++ ys)) (sym e) ∙ drop-append_seam xs ys

pub texts_are : (window : Span) (memory : List ℕ) (ranges : List WatchRange) → length memory ≡ window.size
    → All (λ r. is_watchable window r ≡ true) ranges
    → watch_texts ranges (flat_map (bytes_at window.base memory) ranges) ≡ map (watch_text window.base memory) ranges
texts_are window memory [] fills are = refl
texts_are window memory (r ∷ rs) fills are =
    let own = long window memory r fills (All-head (λ r. is_watchable window r ≡ true) r rs are) in
    let ih = texts_are window memory rs fills (All-tail (λ r. is_watchable window r ≡ true) r rs are) in
    let first = taken r.length (bytes_at window.base memory r) (flat_map (bytes_at window.base memory) rs) own in
    let rest = dropped r.length (bytes_at window.base memory r) (flat_map (bytes_at window.base memory) rs) own in
    rw (first, rest) (ap (λ (ts : List (List ℕ)).
    (hex8 r.address ++ (codes ":" ++ flat_map hex2 (bytes_at window.base memory r))) ∷ ts) ih)
