-- The lines of prices, whose ranges were computed for all rows that are shown.
use Rattle.std.proofs.Common.{◌≡◌, ap, ap₂, refl, arith, ℕ, ◌<◌, List, [], ◌∷◌, ◌++◌, get_or, length, map, All}
use Rattle.std.specs.List.{flat_map}
use Rattle.std.proofs.lemmas.List.{get_or-map, length-map}
use Rattle.std.proofs.lemmas.List.Elements.{All-cons, All-nil}
use Rattle.tomex_pareto.specs.declared.front_row.FrontRow.{FrontRow}
use Rattle.tomex_study.specs.Study.{DesignSpace}
use Rattle.tomex_prices.specs.Price.{amount}
use Rattle.tomex_prices.specs.Studies.{interval_of}
use Rattle.tomex_prices.specs.declared.price.Price.{Price}
use Rattle.tomex_page_tables.specs.Shown.{no_row}
use Rattle.tomex_page_rows.specs.Stays.{PriceRanges, no_range, price_row, range_row, range_row_at, ranges_of}

-- each line is that of the row at the place
pub lines_at : (s : DesignSpace) (shown : List FrontRow) (place : ℕ) → place < length shown → (ps : List Price)
    → flat_map (range_row_at place) (map (ranges_of s shown) ps)
    ≡ flat_map (price_row s (get_or shown place no_row)) ps
unfolding range_row_at price_row
lines_at s shown place within [] = refl
lines_at s shown place within (p ∷ ps) =
    ap₂ (λ (a b : List ℕ). a ++ b)
    (ap (range_row p (amount p s.prices)) (get_or-map (interval_of s p) shown place no_row no_range within))
    (lines_at s shown place within ps)

-- each price has a range for each row
pub ranges_long : (s : DesignSpace) (shown : List FrontRow) (place : ℕ) → place < length shown → (ps : List Price)
    → All (λ (p : PriceRanges). place < length p.ranges) (map (ranges_of s shown) ps)
ranges_long s shown place within [] = All-nil _
ranges_long s shown place within (p ∷ ps) =
    All-cons (λ (q : PriceRanges). place < length q.ranges) _ _
    (omega (arith, length-map shown (interval_of s p), within)) (ranges_long s shown place within ps)
