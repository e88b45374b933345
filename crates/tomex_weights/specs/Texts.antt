-- The text of the weights for which a row is on the front.
use Rattle.std.specs.Prelude.{ℕ, ◌-◌, ◌&&◌, if◌then◌else◌, nat_le, nat_lt, not, List, [], ◌++◌, codes}
use Rattle.tomex_layout.specs.Hundredths.{hundredths}
use Rattle.tomex_pareto.specs.declared.spans.ValueSpan.{ValueSpan}
use Rattle.tomex_weights.specs.Spans.{greatest_weight}
use Rattle.tomex_weights.specs.Listed.{has_weights}

-- the first and the last weight; one at the end of all weights isn't shown
abbrev pub first_text : ValueSpan → List ℕ
first_text s = if nat_lt 1 s.first then hundredths s.first else []

abbrev pub last_text : ValueSpan → List ℕ
last_text s = if nat_le s.end greatest_weight then hundredths (s.end - 1) else []

-- as `0.17..46.88`, `..5.54`, `2.18..` or `any`, both ends still inside; `-` for none
unfoldable pub span_text : ValueSpan → List ℕ
span_text s =
    if not (has_weights s) then codes "-"
    else if nat_le s.first 1 && nat_lt greatest_weight s.end then codes "any"
    else first_text s ++ (codes ".." ++ last_text s)
