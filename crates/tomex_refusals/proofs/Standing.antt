-- Words that are in a text stand at one of its places.
use Rattle.std.proofs.Common.{◌≡◌, ◌∙◌, ◌+◌, ◌-◌, ◌<◌, ◌≤◌, ℕ, ap, arith, subst, sym, refl, Bool, true, false, inl, inr}
use Rattle.std.proofs.Common.{List, [], ◌∷◌, ◌++◌, drop, length, take}
use Rattle.std.specs.Char.{to_ascii_lowercase}
use Rattle.std.specs.Str.{str_eq_ignore_ascii_case, str_to_ascii_lowercase}
use Rattle.std.proofs.lemmas.Bool.{cases_eq, false≢true}
use Rattle.std.proofs.lemmas.List.{drop-map, length-append, length-map, take-append-drop, take-map}
use Rattle.std.proofs.lemmas.Slice.Eq.{bytes_eq-Decides}
use Rattle.std.proofs.Math.Seq.{drop-append_seam, take-append_seam}
use Rattle.tomex_refusals.specs.Looking.{HasWords}

-- where they stand, they are in the text
pub in_text : (text words : List ℕ) (place : ℕ)
    → str_eq_ignore_ascii_case (take (length words) (drop place text)) words ≡ true → HasWords text words
in_text text words place stand =
    let rest : List ℕ = drop place text in
    let n : ℕ = length words in
    let same : str_to_ascii_lowercase (take n rest) ≡ str_to_ascii_lowercase words =
    (bytes_eq-Decides (str_to_ascii_lowercase (take n rest)) (str_to_ascii_lowercase words)).0 stand in
    let whole : text ≡ take place text ++ (take n rest ++ drop n rest) =
    sym (take-append-drop place text) ∙ ap (λ (z : List ℕ). take place text ++ z) (sym (take-append-drop n rest)) in (
      str_to_ascii_lowercase (take place text),
      str_to_ascii_lowercase (drop n rest),
      ap str_to_ascii_lowercase whole
          ∙ (in_parts (take place text) (take n rest) (drop n rest)
          ∙ ap (λ (z : List ℕ). str_to_ascii_lowercase (take place text) ++ (z ++ str_to_ascii_lowercase (drop n rest)))
          same),
    )
  where
    in_two : (xs ys : List ℕ)
        → str_to_ascii_lowercase (xs ++ ys) ≡ str_to_ascii_lowercase xs ++ str_to_ascii_lowercase ys
    in_two [] ys = refl
    in_two (x ∷ xs) ys = ap (λ (z : List ℕ). to_ascii_lowercase x ∷ z) (in_two xs ys)

    in_parts : (xs ys zs : List ℕ) → str_to_ascii_lowercase (xs ++ (ys ++ zs))
        ≡ str_to_ascii_lowercase xs ++ (str_to_ascii_lowercase ys ++ str_to_ascii_lowercase zs)
    in_parts xs ys zs =
        in_two xs (ys ++ zs) ∙ ap (λ (z : List ℕ). str_to_ascii_lowercase xs ++ z) (in_two ys zs)

-- a place at which they stand
pub record AreAt (text words : List ℕ) : Type 0 where
  pub place : ℕ
  pub within : place + length words ≤ length text
  pub stand : str_eq_ignore_ascii_case (take (length words) (drop place text)) words ≡ true

pub at_a_place : (text words : List ℕ) → HasWords text words → AreAt text words
at_a_place text words (before, after, is) =
    let n : ℕ = length words in
    let p : ℕ = length before in
    let low : List ℕ = str_to_ascii_lowercase words in
    let long : length low ≡ n = length-map words to_ascii_lowercase in
    let sizes : length text ≡ p + (n + length after) =
    sym (length-map text to_ascii_lowercase) ∙ (ap length is ∙ (length-append before (low ++ after)
    ∙ ap (λ (k : ℕ). p + k) (length-append low after ∙ ap (λ (k : ℕ). k + length after) long))) in
    let rest : str_to_ascii_lowercase (drop p text) ≡ low ++ after =
    sym (drop-map to_ascii_lowercase p text) ∙ (ap (drop p) is ∙ drop-append_seam before (low ++ after)) in
    let same : str_to_ascii_lowercase (take n (drop p text)) ≡ low =
    sym (take-map to_ascii_lowercase n (drop p text)) ∙ (ap (take n) rest
    ∙ (ap (λ (k : ℕ). take k (low ++ after)) (sym long) ∙ take-append_seam low after)) in
    record {
      place = p;
      within = omega (arith, sizes);
      stand = (bytes_eq-Decides (str_to_ascii_lowercase (take n (drop p text))) low).1 same;
    }

-- at no place before this one
abbrev pub NoneBefore : List ℕ → List ℕ → ℕ → Type 0
NoneBefore text words place = (k : ℕ) → k < place
    → str_eq_ignore_ascii_case (take (length words) (drop k text)) words ≡ false

-- if they stand at none before the last place that has room for them, they stand at that one or nowhere
pub at_last : (text words : List ℕ) (place last : ℕ) (here : Bool) → length words ≤ length text
    → last ≡ length text - length words → last ≤ place → NoneBefore text words place
    → here ≡ str_eq_ignore_ascii_case (take (length words) (drop last text)) words → HasWords text words
    → here ≡ true
at_last text words place last here room last_is past none is has =
    let found = at_a_place text words has in
    elim (cases_eq found.place last) [
      | inl same ↦ is
          ∙ subst (λ (i : ℕ). str_eq_ignore_ascii_case (take (length words) (drop i text)) words ≡ true) same
          found.stand
      | inr apart ↦
          let before : found.place < place = omega (arith, room, last_is, past, found.within, apart) in
          absurd (false≢true (sym (none found.place before) ∙ found.stand))
    ]
