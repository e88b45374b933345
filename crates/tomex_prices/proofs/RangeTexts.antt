-- The texts of ranges.
use Rattle.std.proofs.Common.{◌≡◌, ◌∙◌, ap, ℕ, List}
use Rattle.tomex_pareto.specs.declared.front_row.FrontRow.{FrontRow}
use Rattle.tomex_study.specs.Study.{DesignSpace}
use Rattle.tomex_prices.specs.declared.intervals.PriceRange.{PriceRange}
use Rattle.tomex_prices.specs.declared.price.Price.{Price}
use Rattle.tomex_prices.specs.Interval.{range_text}
use Rattle.tomex_prices.specs.Studies.{interval_of}

-- the text of a row's range
pub text_of_range : (known s : DesignSpace) (price : Price) (row : FrontRow) (range : PriceRange) (text : List ℕ)
    → text ≡ range_text range → range ≡ interval_of known price row → known ≡ s
    → text ≡ range_text (interval_of s price row)
text_of_range known s price row range text is exact same =
    is ∙ (ap range_text exact ∙ ap (λ (x : DesignSpace). range_text (interval_of x price row)) same)
