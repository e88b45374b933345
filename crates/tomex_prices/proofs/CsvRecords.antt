-- The records of a row, by the intervals of each price, and the ends of an interval.
use Rattle.std.proofs.Common.{◌≡◌, ◌∙◌, ap, refl, sym, ℕ, List, [], ◌∷◌, ◌++◌, codes, get_or, length, map, ◌<◌, All}
use Rattle.std.proofs.Common.{Bool, true, false, cond, ◌==◌, ◌&&◌, Some, slice_get}
use Rattle.std.specs.Fmt.{decimal}
use Rattle.std.specs.List.{flat_map}
use Rattle.std.proofs.lemmas.List.{append-nil, get_or-map, length-map}
use Rattle.std.proofs.lemmas.List.Elements.{All-map}
use Rattle.std.proofs.lemmas.Option.{get_or_from_slice_get, slice_get_within}
use Rattle.tomex_pareto.specs.declared.front_row.FrontRow.{FrontRow}
use Rattle.tomex_study.specs.Study.{DesignSpace}
use Rattle.tomex_study.specs.StudyFront.{front_of_study}
use Rattle.tomex_prices.specs.declared.intervals.PriceRange.{PriceRange}
use Rattle.tomex_prices.specs.declared.price.Price.{Price}
use Rattle.tomex_prices.specs.declared.price.TheConstants.{GREATEST_PRICE}
use Rattle.tomex_prices.specs.Prices.{relevant_prices_of}
use Rattle.tomex_prices.specs.PricesCsv.{HasTheSameEnds, IsOfPrice, PriceRanges, price_record, ranges_by, row_records}
use Rattle.tomex_prices.specs.Studies.{interval_of}

-- each price has its own intervals
pub each_of_price : (s : DesignSpace) (prices : List Price) → All (IsOfPrice s) (map (ranges_by s) prices)
each_of_price s prices = All-map (IsOfPrice s) (ranges_by s) prices (λ k d within. refl)

-- the interval of a row stands at its place
pub record StandsAt (s : DesignSpace) (p : PriceRanges) (place : ℕ) (r : FrontRow) : Type 0 where
  pub low : place < length p.ranges
  pub at : (d : PriceRange) → get_or p.ranges place d ≡ interval_of s p.price r

pub stands_at : (s : DesignSpace) (p : PriceRanges) (place : ℕ) (r : FrontRow) → IsOfPrice s p
    → slice_get (front_of_study s) place ≡ Some r → StandsAt s p place r
stands_at s p place r is one =
    let front = front_of_study s in
    let within = slice_get_within front place r one in
    record {
      low = rw (is, length-map front (interval_of s p.price)) within;
      at = λ d. ap (λ (ranges : List PriceRange). get_or ranges place d) is
          ∙ (get_or-map (interval_of s p.price) front place r d within
          ∙ ap (interval_of s p.price) (get_or_from_slice_get front place r r one));
    }

-- the records of a row are those of all prices
pub records_are : (s : DesignSpace) (r : FrontRow) {columns : List PriceRanges}
    → columns ≡ map (ranges_by s) (relevant_prices_of s)
    → flat_map (λ p. price_record s r p.price) columns ≡ row_records s r
unfolding row_records
records_are s r is =
    ap (flat_map (λ (p : PriceRanges). price_record s r p.price)) is ∙ each (relevant_prices_of s) where
      each : (prices : List Price) → flat_map (λ (p : PriceRanges). price_record s r p.price) (map (ranges_by s) prices)
          ≡ flat_map (price_record s r) prices
      each [] = refl
      each (price ∷ prices) = ap (λ (more : List ℕ). price_record s r price ++ more) (each prices)

-- the ends

ends : (at_least at_most : Bool) (low high : List ℕ)
    → cond (at_least && at_most) (codes "any")
    (cond at_least (codes ".." ++ high) (cond at_most (low ++ codes "..") (low ++ codes ".." ++ high)))
    ≡ cond (at_least && at_most) (codes "any") (cond at_least [] low ++ codes ".." ++ cond at_most [] high)
ends true true low high = refl
ends true false low high = refl
ends false true low high = sym (append-nil (low ++ codes ".."))
ends false false low high = refl

pub same_ends : HasTheSameEnds
same_ends range =
    ends (range.least == 0) (range.most == GREATEST_PRICE) (decimal range.least) (decimal range.most)
