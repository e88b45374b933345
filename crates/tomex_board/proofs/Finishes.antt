-- A row was marked finished, and published if it has a band.
use Rattle.std.proofs.Common.{◌≡◌, ℕ, ◌+◌, min, ◌<◌, List, length, get_or, ap, ◌∙◌, subst, arith}
use mathlib.Core.Logic.{dite}
use native.Mathlib.Decide.{dec_le}
use Rattle.tomex_board.specs.declared.mark.Mark.TheVariants.{Finished}
use Rattle.tomex_board.specs.declared.view.View.{View}
use Rattle.tomex_board.specs.Words.{band_word}
use Rattle.tomex_board.specs.Bands.{IsBandOf}
use Rattle.tomex_board.specs.Views.{after_closing, after_seeing}
use Rattle.tomex_board.specs.Finishing.{IsFinishing}

-- a band of floors and a cost as the code reads them
pub band_read : {read floors : List ℕ} {x cost : ℕ} (k : ℕ) → read ≡ floors → x ≡ cost → IsBandOf read x k
    → IsBandOf floors cost k
band_read {read} {cost} k at is band =
    subst (λ (l : List ℕ). IsBandOf l cost k) at (subst (λ (z : ℕ). IsBandOf read z k) is band)

-- no floor as the code reads it is as high as the cost
pub none_read : (read floors : List ℕ) (x cost : ℕ) → read ≡ floors → x ≡ cost
    → ((k : ℕ) → k < length read → get_or read k 0 < x) → (k : ℕ) → k < length floors → get_or floors k 0 < cost
none_read read floors x cost at is dear =
    subst (λ (l : List ℕ). (k : ℕ) → k < length l → get_or l k 0 < cost) at
    (subst (λ (z : ℕ). (k : ℕ) → k < length read → get_or read k 0 < z) is dear)

-- a cost has at most one band
pub one_band : (floors : List ℕ) (cost j k : ℕ) → IsBandOf floors cost j → IsBandOf floors cost k → j ≡ k
one_band floors cost j k a b = dite (dec_le (j + 1) k)
    (λ less. let p = b.2 j (omega arith) in let q = a.1 in absurd (omega arith))
    (λ no. dite (dec_le (k + 1) j) (λ more. let p = a.2 k (omega arith) in let q = b.1 in
    absurd (omega arith)) (λ neither. omega arith))

pub in_its_band : {floors : List ℕ} {cost i y : ℕ} (k : ℕ) {v u w : View} → IsBandOf floors cost k
    → u ≡ after_closing i (Finished y) v → (found : ℕ) × (w ≡ after_seeing k (min found (band_word y i)) u)
    → IsFinishing floors cost i y v w
in_its_band {floors} {cost} {i} {y} k {v} {w} band closed seen = record {
  published = λ j b. subst (λ (z : ℕ). (found : ℕ)
      × (w ≡ after_seeing z (min found (band_word y i)) (after_closing i (Finished y) v)))
      (one_band floors cost k j band b)
      (seen.0, seen.1 ∙ ap (after_seeing k (min seen.0 (band_word y i))) closed);
  unpublished = λ none. absurd (none k band);
}

pub in_no_band : {floors : List ℕ} {cost i y : ℕ} {v w : View}
    → ((k : ℕ) → k < length floors → get_or floors k 0 < cost) → w ≡ after_closing i (Finished y) v
    → IsFinishing floors cost i y v w
in_no_band dear closed = record {
  published = λ j b. let p = dear j b.0 in let q = b.1 in absurd (omega arith);
  unpublished = λ none. closed;
}
