-- What the formatter pads to a number of hexadecimal digits is as many last digits of the number.
use Rattle.std.proofs.Common.{◌≡◌, ◌≢◌, ℕ, zero, suc, ◌+◌, ◌-◌, ◌/◌, ◌%◌, ◌^◌, ◌<◌, ◌≤◌, true, false, ◌==◌, List, []}
use Rattle.std.proofs.Common.{◌∷◌, ◌++◌, length, replicate, inl, inr, arith, refl, ap, sym, ◌∙◌, append_assoc}
use Rattle.std.proofs.lemmas.Bool.{cases_eq, ne_eqb}
use Rattle.std.proofs.lemmas.List.{append-nil, length_push, replicate_more}
use Rattle.std.specs.Fmt.{char_count, digit_glyph, digits, digits_onto, format_spec, padded_integral}
use Rattle.tomex_rvdec.specs.Text.{hex8}
use Rattle.tomex_rvexec.specs.Texts.{hex2, last_digits}

-- zeros in front, and the digits from the first that counts
record IsPadded (k n : ℕ) (acc text : List ℕ) : Type 0 where
  pub shown : List ℕ
  pub is : text ≡ shown ++ acc
  pub short : length shown ≤ k
  pub padded : replicate (k - length shown) 48 ++ shown ≡ last_digits k n

zeros : (k : ℕ) → last_digits k 0 ≡ replicate k 48
zeros zero = refl
zeros (suc k) = let one : k + 1 ≡ suc k = omega arith in
    ap (λ ds. ds ++ 48 ∷ []) (zeros k) ∙ replicate_more k 48 ∙ ap (λ n. replicate n 48) one

-- one digit that counts
last : (k f n : ℕ) (acc : List ℕ) → n / 16 ≡ 0 → IsPadded (suc k) n acc (digits_onto (suc f) 16 false n acc)
last k f n acc none =
    let test : (n / 16 == 0) ≡ true = rw none refl in
    let rest : suc k - 1 ≡ k = omega arith in
    record {
      shown = digit_glyph false (n % 16) ∷ [];
      is = rw test refl;
      short = omega arith;
      padded = rw rest (ap (λ ds. ds ++ digit_glyph false (n % 16) ∷ [])
          (sym (zeros k) ∙ ap (last_digits k) (sym none)));
    }

-- one digit after others that count
further : (k f n : ℕ) (acc : List ℕ) → n / 16 ≢ 0
    → IsPadded k (n / 16) (digit_glyph false (n % 16) ∷ acc)
    (digits_onto f 16 false (n / 16) (digit_glyph false (n % 16) ∷ acc))
    → IsPadded (suc k) n acc (digits_onto (suc f) 16 false n acc)
further k f n acc some older =
    let test : (n / 16 == 0) ≡ false = ne_eqb (n / 16) 0 some in
    let count = length_push older.shown (digit_glyph false (n % 16)) in
    let rest : suc k - (length older.shown + 1) ≡ k - length older.shown = omega arith in
    record {
      shown = older.shown ++ digit_glyph false (n % 16) ∷ [];
      is = rw test (older.is ∙ sym (append_assoc older.shown (digit_glyph false (n % 16) ∷ []) acc));
      short = omega (arith, count, older.short);
      padded = rw (count, rest) (sym (append_assoc (replicate (k - length older.shown) 48) older.shown
          (digit_glyph false (n % 16) ∷ [])) ∙ ap (λ ds. ds ++ digit_glyph false (n % 16) ∷ []) older.padded);
    }

-- as many digits as there is room for
padded_to : (k f n : ℕ) (acc : List ℕ) → n < 16 ^ suc k → k < f → IsPadded (suc k) n acc (digits_onto f 16 false n acc)
padded_to k zero n acc small room = absurd (omega (arith, room))
padded_to zero (suc f) n acc small room = last zero f n acc (let below : n < 16 = small in omega (arith, below))
padded_to (suc k) (suc f) n acc small room =
    let below : n / 16 < 16 ^ suc k = omega (arith, small) in
    elim (cases_eq (n / 16) 0) [
      | inl none ↦ last (suc k) f n acc none
      | inr some ↦ further (suc k) f n acc some
          (padded_to k f (n / 16) (digit_glyph false (n % 16) ∷ acc) below (omega (arith, room)))
    ]

-- the digits, padded with zeros to their width
padded_digits : (k n : ℕ) → n < 16 ^ suc k → k < 64 → padded_integral (format_spec 32 0 4 (suc k) (2 ^ 64 - 1)) false []
    (digits 16 false n) ≡ last_digits (suc k) n
unfolding padded_integral char_count digits
padded_digits k n small room =
    let p = padded_to k 64 n [] small room in
    let text : digits_onto 64 16 false n [] ≡ p.shown = p.is ∙ append-nil p.shown in
    let room_left : suc k - length p.shown - 0 - 0 ≡ suc k - length p.shown = omega arith in
    rw (text, room_left, append-nil p.shown) p.padded

pub eight_digits : (n : ℕ) → n < 2 ^ 32 → hex8 n ≡ last_digits 8 n
eight_digits n small = padded_digits 7 n small (omega arith)

pub two_digits : (n : ℕ) → n < 2 ^ 8 → hex2 n ≡ last_digits 2 n
two_digits n small = padded_digits 1 n small (omega arith)
