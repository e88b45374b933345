-- The first and the last number of a text.
use Rattle.std.proofs.Common.{◌≡◌, ◌∙◌, ap, arith, refl, sym, subst, ℕ, zero, suc, ◌/◌, ◌%◌, ◌<◌, ◌+◌, ◌-◌, ◌==◌, All}
use Rattle.std.proofs.Common.{List, [], ◌∷◌, ◌++◌, Bool, true, false, cond, decimal, length, one-add, reverse, take}
use Rattle.std.specs.Fmt.{digit_glyph, digits, digits_onto}
use Rattle.std.specs.List.{prefix_len}
use Rattle.std.proofs.lemmas.Bool.{cond_both}
use Rattle.std.proofs.lemmas.Bool.Decides.{nat_tests}
use Rattle.std.proofs.lemmas.List.{get_or-reverse, length-reverse, reverse-append, reverse-reverse}
use Rattle.std.proofs.lemmas.List.Elements.{All-cons, All-head, All-nil, All-tail}
use Rattle.tomex_config.specs.Configuration.{is_between}
use Rattle.tomex_views.specs.PricesLaws.{first_number, last_number}

abbrev pub is_digit : ℕ → Bool
is_digit b = is_between 48 57 b

abbrev AreDigits : List ℕ → Type 0
AreDigits text = All (λ b. is_digit b ≡ true) text

glyph : (d : ℕ) → d < 10 → is_digit (digit_glyph false d) ≡ true
glyph d small = grind (arith, nat_tests)

onto : (fuel n : ℕ) (after : List ℕ) → AreDigits after → AreDigits (digits_onto fuel 10 false n after)
onto zero n after rest = rest
onto (suc fuel) n after rest =
    let digit = digit_glyph false (n % 10) in
    let more : AreDigits (digit ∷ after) =
    All-cons (λ b. is_digit b ≡ true) digit after (glyph (n % 10) (omega arith)) rest in
    cond_both (n / 10 == 0) (digit ∷ after) (digits_onto fuel 10 false (n / 10) (digit ∷ after)) AreDigits
    (λ _. more) (λ _. onto fuel (n / 10) (digit ∷ after) more)

pub decimal_digits : (n : ℕ) → AreDigits (decimal n)
unfolding digits
decimal_digits n = onto 64 n [] (All-nil (λ b. is_digit b ≡ true))

-- digits, and what stands after them
taken : (ds rest : List ℕ) → AreDigits ds → first_number rest ≡ [] → first_number (ds ++ rest) ≡ ds
taken [] rest each ends = ends
taken (d ∷ ds) rest each ends =
    let p = λ (b : ℕ). is_digit b ≡ true in
    let n = prefix_len is_digit (ds ++ rest) in
    ap (λ (b : Bool). take (cond b (1 + n) 0) (d ∷ (ds ++ rest))) (All-head p d ds each)
    ∙ (ap (λ (m : ℕ). take m (d ∷ (ds ++ rest))) (one-add n)
    ∙ ap (λ (xs : List ℕ). d ∷ xs) (taken ds rest (All-tail p d ds each) ends))

turned : (ds : List ℕ) → AreDigits ds → AreDigits (reverse ds)
turned ds each k d low =
    let within : k < length ds = subst (λ (n : ℕ). k < n) (length-reverse ds) low in
    subst (λ (b : ℕ). is_digit b ≡ true) (sym (get_or-reverse ds k d within))
    (each (length ds - 1 - k) d (omega (arith, within)))

module _ (n : ℕ) where
  pub first_is : (rest : List ℕ) → first_number rest ≡ [] → first_number (decimal n ++ rest) ≡ decimal n
  first_is rest ends = taken (decimal n) rest (decimal_digits n) ends

  pub last_is : (front : List ℕ) → first_number (reverse front) ≡ [] → last_number (front ++ decimal n) ≡ decimal n
  last_is front ends =
      ap (λ (text : List ℕ). reverse (first_number text)) (reverse-append front (decimal n))
      ∙ (ap reverse (taken (reverse (decimal n)) (reverse front) (turned (decimal n) (decimal_digits n)) ends)
      ∙ reverse-reverse (decimal n))

  -- after points
  pub pointed : (points : List ℕ) → first_number (reverse points ++ reverse (decimal n)) ≡ []
      → first_number (reverse (decimal n ++ points)) ≡ []
  pointed points ends = ap first_number (reverse-append (decimal n) points) ∙ ends
