-- One measure of each row, its cost or its cycles, is a line in a value; its other measure stays. For which values no
-- row dominates a given one.
use Rattle.std.specs.Prelude.{ℕ, suc, ◌+◌, ◌-◌, ◌*◌, ◌<◌, ◌^◌, ◌&&◌, ◌==◌, if◌then◌else◌, max, min, nat_le}
use Rattle.std.specs.Prelude.{nat_lt, Bool, List, map}
use Rattle.std.specs.Int.{div_ceil}
use Rattle.std.specs.List.{fold}
use Rattle.tomex_pareto.specs.Front.{front_of, is_on, is_undominated}
use Rattle.tomex_pareto.specs.declared.front_row.FrontRow.{FrontRow}
use Rattle.tomex_pareto.specs.declared.line_row.LineRow.{LineRow}
use Rattle.tomex_pareto.specs.declared.spans.ValueSpan.{ValueSpan}

-- its rest and 1 more fit in 64 bits
abbrev pub HasRoom : LineRow → Type 0
HasRoom r = suc r.rest < 2 ^ 64

-- the measure that is a line, at the value q
abbrev pub measure_at : ℕ → LineRow → ℕ
measure_at q r = r.rest + q * r.times

-- a row with its cost and cycles in each other's place
abbrev pub swapped : FrontRow → FrontRow
swapped r = record { row = r.row; cost = r.cycles; cycles = r.cost }

-- the row at q, if its cost is the line, and if its cycles are
abbrev pub as_cost : ℕ → LineRow → FrontRow
as_cost q r = record { row = r.row; cost = measure_at q r; cycles = r.other }

abbrev pub as_cycles : ℕ → LineRow → FrontRow
as_cycles q r = swapped (as_cost q r)

-- none of the rows dominates this one at q
abbrev pub stays : ℕ → List LineRow → LineRow → Bool
stays q rows r = is_undominated (map (as_cost q) rows) (as_cost q r)

-- the row of this number is on the front at q
abbrev pub on_front : ℕ → List LineRow → ℕ → Bool
on_front q rows n = is_on (front_of (map (as_cost q) rows)) n

-- A rival that isn't greater in the other measure lets a row stay at q if `need r j + q * r.times` is at most
-- `measure_at q j`: the row's rest, and 1 more if the rival is less in the other measure.
abbrev pub need : LineRow → LineRow → ℕ
need r j = r.rest + (if nat_lt j.other r.other then 1 else 0)

-- If such a rival's line is the steeper one, it lets the row stay from some value on; if it is the flatter one, up to
-- some value; else always or never. So this is left of a span from `first` to before `end`.
abbrev pub first_left : LineRow → LineRow → ℕ → ℕ
first_left r j first =
    if nat_lt r.times j.times then max first (div_ceil (need r j - j.rest) (j.times - r.times)) else first

abbrev pub end_left : LineRow → LineRow → ℕ → ℕ
end_left r j end =
    if nat_lt j.times r.times then min end (div_ceil (suc j.rest - need r j) (r.times - j.times))
    else if r.times == j.times && nat_lt j.rest (need r j) then 0
    else end

-- what a rival leaves of a span
abbrev pub narrowed : LineRow → ValueSpan → LineRow → ValueSpan
narrowed r s j =
    if nat_le j.other r.other then record { first = first_left r j s.first; end = end_left r j s.end } else s

-- what all rows leave of the values from `least` to `limit`
abbrev pub span : ℕ → ℕ → LineRow → List LineRow → ValueSpan
span least limit r rows = fold (narrowed r) (record { first = least; end = suc limit }) rows

-- a span without values, and one for all of those
abbrev pub no_values : ValueSpan
no_values = record { first = 0; end = 0 }

abbrev pub settled : ValueSpan → ValueSpan
settled s = if nat_lt s.first s.end then s else no_values

abbrev pub holds : ValueSpan → ℕ → Bool
holds s q = nat_le s.first q && nat_lt q s.end
