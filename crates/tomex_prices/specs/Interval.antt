-- One price varies, all others stay as stated: for which values of it a row stays undominated.
use Rattle.std.specs.Prelude.{ℕ, ◌-◌, ◌<◌, ◌^◌, ◌&&◌, ◌==◌, if◌then◌else◌, nat_le, Bool, List, ◌++◌, codes}
use Rattle.std.specs.Fmt.{decimal}
use Rattle.tomex_pareto.specs.declared.line_row.LineRow.{LineRow}
use Rattle.tomex_pareto.specs.declared.spans.ValueSpan.{ValueSpan}
use Rattle.tomex_pareto.specs.Spans.{span}
use Rattle.tomex_prices.specs.declared.intervals.PriceRange.{PriceRange}
use Rattle.tomex_prices.specs.declared.price.TheConstants.{GREATEST_PRICE}

-- rests and times are small
pub record IsSmall (r : LineRow) : Type 0 where
  pub rest : r.rest < 2 ^ 32
  pub times : r.times < 256

-- a span of prices by its least and its greatest one; an empty one, which no row of a front has, gets no upper bound
abbrev pub range_of : ValueSpan → PriceRange
range_of s = record { least = s.first; most = if s.end == 0 then GREATEST_PRICE else s.end - 1 }

-- the prices at which a row stays, if it stays at the stated one
abbrev pub interval : LineRow → List LineRow → PriceRange
interval r rows = range_of (span 0 GREATEST_PRICE r rows)

abbrev pub is_within : PriceRange → ℕ → Bool
is_within range q = nat_le range.least q && nat_le q range.most

-- the text of a range: an end at the limit of prices isn't shown, and all prices are shown as `any`
abbrev pub range_text : PriceRange → List ℕ
range_text range =
    if range.least == 0 && range.most == GREATEST_PRICE then codes "any"
    else if range.least == 0 then codes ".." ++ decimal range.most
    else if range.most == GREATEST_PRICE then decimal range.least ++ codes ".."
    else decimal range.least ++ codes ".." ++ decimal range.most
