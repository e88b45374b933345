-- A plateau's numbers: made of intervals, and compared with those of a configuration, one after another.
use Rattle.std.proofs.Common.{◌≡◌, ◌∙◌, ℕ, zero, suc, ◌+◌, ◌<◌, arith, ap, sym, refl, Bool, true, List, [], ◌∷◌, length}
use Rattle.std.proofs.Common.{◌++◌, get_or, take, map}
use Rattle.std.specs.Prelude.{◌&&◌, slice_index}
use Rattle.std.specs.List.{list_all}
use Rattle.std.proofs.Math.Bool.{and_assoc, and-true}
use Rattle.std.proofs.lemmas.List.{map_more, take_all, take_more_set}
use Rattle.std.proofs.Math.ListN.{set, length-set}
use Rattle.tomex_plateaus.specs.declared.interval.Interval.{Interval}
use Rattle.tomex_plateaus.specs.declared.plateau.Plateau.{Plateau}
use Rattle.tomex_plateaus.specs.Plateaus.{fits, interval_at, is_within}

-- the number at a place is one of the plateau's
abbrev pub fits_at : Plateau → List ℕ → ℕ → Bool
fits_at p numbers place = is_within (interval_at p place) (slice_index numbers place)

-- so are all of those before it
pub fits_below : Plateau → List ℕ → ℕ → Bool
fits_below p numbers zero = true
fits_below p numbers (suc place) = fits_below p numbers place && fits_at p numbers place

pub none_compared : (p : Plateau) (numbers : List ℕ) → true ≡ fits_below p numbers 0
unfolding fits_below
none_compared p numbers = refl

pub fits_more : (p : Plateau) (numbers : List ℕ) (place : ℕ)
    → (fits_below p numbers place && fits_at p numbers place) ≡ fits_below p numbers (place + 1)
unfolding fits_below
fits_more p numbers place =
    let e : suc place ≡ place + 1 = omega arith in
    ap (fits_below p numbers) e

-- so many places from one on
places_from : ℕ → ℕ → List ℕ
places_from place zero = []
places_from place (suc count) = place ∷ places_from (suc place) count

all_below : (p : Plateau) (numbers : List ℕ) (place count : ℕ)
    → (fits_below p numbers place && list_all (fits_at p numbers) (places_from place count))
    ≡ fits_below p numbers (place + count)
unfolding fits_below places_from
all_below p numbers place zero =
    let e : place ≡ place + 0 = omega arith in
    and-true (fits_below p numbers place) ∙ ap (fits_below p numbers) e
all_below p numbers place (suc count) =
    let e : suc place + count ≡ place + suc count = omega arith in
    sym
    (and_assoc (fits_below p numbers place) (fits_at p numbers place)
    (list_all (fits_at p numbers) (places_from (suc place) count)))
    ∙ all_below p numbers (suc place) count
    ∙ ap (fits_below p numbers) e

-- the first 13 numbers are counts, the other 5 latencies
all_eighteen : (p : Plateau) (numbers : List ℕ) → fits numbers p ≡ fits_below p numbers 18
unfolding fits_below places_from
all_eighteen p numbers =
    ap (λ (b : Bool). b && list_all (fits_at p numbers) (places_from 13 5)) (all_below p numbers 0 13)
    ∙ all_below p numbers 13 5

-- the first sixteen and the last two
pub all_fit : (p : Plateau) (numbers : List ℕ)
    → (fits_below p numbers 16 && (fits_at p numbers 16 && fits_at p numbers 17)) ≡ fits numbers p
unfolding fits_below
all_fit p numbers =
    sym (and_assoc (fits_below p numbers 16) (fits_at p numbers 16) (fits_at p numbers 17))
    ∙ sym (all_eighteen p numbers)

-- the ends of the intervals before a place were set
pub record AreSplit (bounds : List Interval) (place : ℕ) (least most : List ℕ) : Type 0 where
  pub least_count : length least ≡ 18
  pub most_count : length most ≡ 18
  pub least_are : take place least ≡ map (λ i. i.least) (take place bounds)
  pub most_are : take place most ≡ map (λ i. i.most) (take place bounds)

pub none_split : (bounds : List Interval) (least most : List ℕ) → length least ≡ 18 → length most ≡ 18
    → AreSplit bounds 0 least most
none_split bounds least most few many =
    record { least_count = few; most_count = many; least_are = refl; most_are = refl }

-- one end more
one_end : (end : Interval → ℕ) (bounds : List Interval) (place : ℕ) (d : Interval) (ends : List ℕ)
    → place < length bounds → place < length ends → take place ends ≡ map end (take place bounds)
    → take (place + 1) (set ends place (end (get_or bounds place d))) ≡ map end (take (place + 1) bounds)
one_end end bounds place d ends low within are =
    take_more_set ends place (end (get_or bounds place d)) within
    ∙ ap (λ (xs : List ℕ). xs ++ end (get_or bounds place d) ∷ []) are
    ∙ sym (map_more end bounds place d low)

pub one_split : (bounds : List Interval) (place : ℕ) (d : Interval) (least most : List ℕ) → length bounds ≡ 18
    → place < 18 → AreSplit bounds place least most
    → AreSplit bounds (place + 1) (set least place (get_or bounds place d).least)
    (set most place (get_or bounds place d).most)
one_split bounds place d least most count low are =
    let few : length least ≡ 18 = are.least_count in
    let many : length most ≡ 18 = are.most_count in
    record {
      least_count = length-set least place (get_or bounds place d).least ∙ few;
      most_count = length-set most place (get_or bounds place d).most ∙ many;
      least_are = one_end (λ i. i.least) bounds place d least (omega arith) (omega arith) are.least_are;
      most_are = one_end (λ i. i.most) bounds place d most (omega arith) (omega arith) are.most_are;
    }

pub all_split : (bounds : List Interval) (least most : List ℕ) → length bounds ≡ 18 → AreSplit bounds 18 least most
    → (least ≡ map (λ i. i.least) bounds) × (most ≡ map (λ i. i.most) bounds)
all_split bounds least most count are =
    let few : length least ≡ 18 = are.least_count in
    let many : length most ≡ 18 = are.most_count in (
      sym (take_all 18 least (omega arith)) ∙ are.least_are
          ∙ ap (map (λ (i : Interval). i.least)) (take_all 18 bounds (omega arith)),
      sym (take_all 18 most (omega arith)) ∙ are.most_are
          ∙ ap (map (λ (i : Interval). i.most)) (take_all 18 bounds (omega arith)),
    )
