-- All rows in a picture as dots. In a column of points those that follow one another downwards make one stroke.
-- Source: Scalable Vector Graphics 1.1, sections 8.3 (path data) and 11.4 (a stroke without a length and with round
-- caps is a dot).
use Rattle.std.specs.Prelude.{◌≡◌, ℕ, ◌+◌, ◌-◌, ◌*◌, ◌<◌, ◌==◌, nat_le, Bool, false, not, ◌&&◌, if◌then◌else◌}
use Rattle.std.specs.Prelude.{List, [], ◌++◌, codes, length, slice_index_or}
use Rattle.std.specs.List.{flat_map, list_any, prefix_len, range_with_len}
use Rattle.std.specs.Fmt.{decimal}
use Rattle.tomex_pareto.specs.declared.front_row.FrontRow.{FrontRow}
use Rattle.tomex_front_views.specs.Axes.{x_of, y_of}
use Rattle.tomex_front_views.specs.declared.plot.axes.Axes.{Axes}

-- a row has this point
abbrev pub stands_at : Axes → ℕ → ℕ → FrontRow → Bool
stands_at axes x y r = x_of axes r.cost == x && y_of axes r.cycles == y

-- some row has this point
unfoldable pub has_dot : Axes → List FrontRow → ℕ → ℕ → Bool
has_dot axes rows x y = list_any (stands_at axes x y) rows

-- a stroke begins at a dot that has none right above it
abbrev pub begins : (ℕ → Bool) → ℕ → Bool
begins dot y = dot y && not (dot (y - 1))

-- and goes down over the dots that follow without a gap
unfoldable pub reach : (ℕ → Bool) → ℕ → ℕ
reach dot y = prefix_len dot (range_with_len (y + 1) (360 - y))

unfoldable pub stroke : ℕ → ℕ → ℕ → List ℕ
stroke x y far = codes "M" ++ (decimal x ++ (codes " " ++ (decimal y ++ (codes "v" ++ decimal far))))

abbrev pub stroke_at : (ℕ → Bool) → ℕ → ℕ → List ℕ
stroke_at dot x y = if begins dot y then stroke x y (reach dot y) else []

-- from the top to the bottom, and from the left to the right
unfoldable pub all_y : List ℕ
all_y = range_with_len 80 281

unfoldable pub all_x : List ℕ
all_x = range_with_len 136 513

-- the strokes of a column of points
abbrev pub column_text : (ℕ → Bool) → ℕ → List ℕ
column_text dot x = flat_map (stroke_at dot x) all_y

-- those of all columns
unfoldable pub dots : Axes → List FrontRow → List ℕ
dots axes rows = flat_map (λ x. column_text (has_dot axes rows x) x) all_x

-- the width of strokes: narrower if there are many rows
abbrev pub width_of : ℕ → ℕ
width_of rows = if nat_le rows 1024 then 3 else 2

abbrev pub round_ends : List ℕ
round_ends = codes "\" stroke-linecap=\"round\"/>\n"

-- all rows as one faint path
unfoldable pub dots_line : Axes → List FrontRow → List ℕ
dots_line axes rows =
    codes "<path d=\"" ++ (dots axes rows ++ (codes "\" fill=\"none\" stroke=\"#a9b8c9\" stroke-width=\""
    ++ (decimal (width_of (length rows)) ++ round_ends)))

-- a mark for each point of the picture, column by column from the left, in a column from the top: true if it has a
-- dot
pub record IsTable (axes : Axes) (rows : List FrontRow) (marks : List Bool) : Type 0 where
  pub count : length marks ≡ 513 * 281
  pub each : (column line : ℕ) → column < 513 → line < 281
      → slice_index_or marks (column * 281 + line) false ≡ has_dot axes rows (136 + column) (80 + line)
