-- The ticks of some spans, the rates of some rows and their texts, computed by the definitions themselves.
use Rattle.std.proofs.Common.{◌≡◌, refl, ℕ, [], ◌∷◌, None}
use Rattle.std.specs.Prelude.{codes}
use Rattle.std.specs.Fmt.{digits}
use Rattle.tomex_pareto.specs.declared.front_row.FrontRow.{FrontRow}
use Rattle.tomex_layout.specs.Hundredths.{hundredths}
use Rattle.tomex_front_views.specs.Axes.{step_of, ticks_of}
use Rattle.std.specs.Prelude.{◌==◌, ◌||◌, Bool}
use Rattle.tomex_front_views.specs.Dots.{reach, stroke, stroke_at}
use Rattle.tomex_front_views.specs.FrontTable.{rates_after}
use Rattle.tomex_front_views.specs.declared.plot.axes.Span.{Span}

abbrev span : ℕ → ℕ → Span
span least greatest = record { least = least; greatest = greatest }

-- a sixth of 99 is 16.5
costs : ticks_of (span 101 200) ≡ 120 ∷ 140 ∷ 160 ∷ 180 ∷ 200 ∷ []
unfolding ticks_of step_of
costs = refl

cycles : ticks_of (span 29676 54153) ≡ 30000 ∷ 35000 ∷ 40000 ∷ 45000 ∷ 50000 ∷ []
unfolding ticks_of step_of
cycles = refl

-- six steps of 1 are enough for 6, but not for 7
six : ticks_of (span 8 14) ≡ 8 ∷ 9 ∷ 10 ∷ 11 ∷ 12 ∷ 13 ∷ 14 ∷ []
unfolding ticks_of step_of
six = refl

seven : ticks_of (span 7 14) ≡ 8 ∷ 10 ∷ 12 ∷ 14 ∷ []
unfolding ticks_of step_of
seven = refl

one_value : ticks_of (span 75 75) ≡ 75 ∷ []
unfolding ticks_of step_of
one_value = refl

greatest_step : step_of 18446744073709551615 ≡ 5000000000000000000
unfolding step_of
greatest_step = refl

abbrev row : ℕ → ℕ → ℕ → FrontRow
row n cost cycles = record { row = n; cost = cost; cycles = cycles }

-- the first row has no rate, nor has one that equals the row before
some_rates : rates_after None (row 4 101 54153 ∷ row 132 107 44727 ∷ row 7 107 44727 ∷ row 196 115 37515 ∷ [])
    ≡ codes "-" ∷ hundredths 157100 ∷ codes "-" ∷ hundredths 90150 ∷ []
some_rates = refl

-- rounded down
rounded : rates_after None (row 0 125 36039 ∷ row 1 136 35639 ∷ []) ≡ codes "-" ∷ hundredths 3636 ∷ []
rounded = refl

rate_text : hundredths 157100 ≡ codes "1571.00"
unfolding hundredths digits
rate_text = refl

-- strokes of a column that has dots at 80, 161 to 163 and 360

abbrev dot : ℕ → Bool
dot y = y == 80 || (y == 161 || (y == 162 || (y == 163 || y == 360)))

topmost : stroke_at dot 136 80 ≡ codes "M136 80v0"
unfolding stroke reach digits
topmost = refl

longest : stroke_at dot 136 161 ≡ codes "M136 161v2"
unfolding stroke reach digits
longest = refl

inside : stroke_at dot 136 162 ≡ []
inside = refl

lowest : stroke_at dot 648 360 ≡ codes "M648 360v0"
unfolding stroke reach digits
lowest = refl
