-- The axes of a picture of the front: costs from left to right, cycles from bottom to top, and the round numbers
-- beside them. All numbers are whole, quotients are rounded down; a picture's y grows downwards.
use Rattle.std.specs.Prelude.{ℕ, ◌+◌, ◌-◌, ◌*◌, ◌/◌, ◌^◌, min, max, nat_le, if◌then◌else◌, List, [], ◌∷◌, map}
use Rattle.std.specs.Int.{div_ceil}
use Rattle.std.specs.List.{flat_map, fold, range_with_len}
use Rattle.tomex_pareto.specs.declared.front_row.FrontRow.{FrontRow}
use Rattle.tomex_front_views.specs.declared.plot.axes.Axes.{Axes}
use Rattle.tomex_front_views.specs.declared.plot.axes.Point.{Point}
use Rattle.tomex_front_views.specs.declared.plot.axes.Span.{Span}

-- the span of only this value
abbrev pub only : ℕ → Span
only value = record { least = value; greatest = value }

-- extended to include this value
abbrev pub with_value : Span → ℕ → Span
with_value span value = record { least = min span.least value; greatest = max span.greatest value }

abbrev pub with_row : Axes → FrontRow → Axes
with_row axes r = record { costs = with_value axes.costs r.cost; cycles = with_value axes.cycles r.cycles }

-- from the least to the greatest of all costs, and of all cycles
abbrev pub axes_of : List FrontRow → Axes
axes_of [] = record { costs = only 0; cycles = only 0 }
axes_of (r ∷ rows) = fold with_row (record { costs = only r.cost; cycles = only r.cycles }) rows

-- a value's position on an axis of length `far`; the middle if all values are equal
unfoldable pub along : Span → ℕ → ℕ → ℕ
along span far value =
    if nat_le span.greatest span.least then far / 2
    else (min value span.greatest - span.least) * far / (span.greatest - span.least)

-- the position of a cost: from 136 to 648
unfoldable pub x_of : Axes → ℕ → ℕ
x_of axes cost = 136 + along axes.costs 512 cost

-- the position of cycles: from 360 up to 80
unfoldable pub y_of : Axes → ℕ → ℕ
y_of axes cycles = 360 - along axes.cycles 280 cycles

abbrev pub point_of : Axes → FrontRow → Point
point_of axes r = record { x = x_of axes r.cost; y = y_of axes r.cycles }

-- a power of ten, twice and five times as much
abbrev pub round_in : ℕ → List ℕ
round_in k = 10 ^ k ∷ 2 * 10 ^ k ∷ 5 * 10 ^ k ∷ []

-- 1, 2, 5, 10, 20, 50, .., up to 5 * 10^18: a sixth of any number of 64 bits is below it
abbrev pub round_numbers : List ℕ
round_numbers = flat_map round_in (range_with_len 0 19)

-- the first of these steps for which six are at least as long as the distance `far`
abbrev pub first_enough : ℕ → List ℕ → ℕ
first_enough far [] = 10 ^ 19
first_enough far (step ∷ steps) = if nat_le far (6 * step) then step else first_enough far steps

-- the step from tick to tick: the least round number that is at least a sixth of the distance
unfoldable pub step_of : ℕ → ℕ
step_of far = first_enough far round_numbers

-- the multiples of a number from the least that isn't below one bound to the greatest that isn't above another
abbrev pub multiples : ℕ → ℕ → ℕ → List ℕ
multiples step least greatest =
    map (λ k. k * step) (range_with_len (div_ceil least step) (greatest / step + 1 - div_ceil least step))

-- the values of a span that have a tick
unfoldable pub ticks_of : Span → List ℕ
ticks_of span = multiples (step_of (span.greatest - span.least)) span.least span.greatest
