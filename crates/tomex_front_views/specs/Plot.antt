-- The front as a picture: cost from left to right, cycles from bottom to top, a point for each row, and the staircase
-- above which all rows lie.
-- Source: Scalable Vector Graphics 1.1, sections 9.3 (paths), 9.2 and 9.4 (basic shapes), 10.5 (text).
use Rattle.std.specs.Prelude.{ℕ, ◌+◌, ◌-◌, ◌*◌, ◌==◌, nat_le, Bool, true, ◌||◌, if◌then◌else◌}
use Rattle.std.specs.Prelude.{List, [], ◌∷◌, ◌++◌, codes, length, Option, Some, None}
use Rattle.std.specs.List.{flat_map}
use Rattle.std.specs.Fmt.{decimal}
use Rattle.tomex_pareto.specs.Front.{is_on}
use Rattle.tomex_pareto.specs.Hull.{hull_of}
use Rattle.tomex_study.specs.StudyFront.{front_of_study}
use Rattle.tomex_study.specs.Study.{DesignSpace}
use Rattle.tomex_pareto.specs.declared.front_row.FrontRow.{FrontRow}
use Rattle.tomex_front_views.specs.Axes.{axes_of, point_of, ticks_of, x_of, y_of}
use Rattle.tomex_front_views.specs.declared.plot.axes.Axes.{Axes}
use Rattle.tomex_front_views.specs.declared.plot.axes.Point.{Point}
use Rattle.tomex_front_views.specs.declared.plot.axes.Span.{Span}
use Rattle.tomex_front_views.specs.declared.plot.marks.Mark.{Mark}
use Rattle.tomex_front_views.specs.declared.plot.marks.Mark.TheVariants.{CostLine, CyclesLine, CostNumber}
use Rattle.tomex_front_views.specs.declared.plot.marks.Mark.TheVariants.{CyclesNumber}
use Rattle.tomex_front_views.specs.declared.plot.points.Named.{Named}

-- the title above the picture: `front: 14 of 384 rows`
abbrev pub title_of : ℕ → ℕ → List ℕ
title_of rows all = codes "front: " ++ (decimal rows ++ (codes " of " ++ (decimal all ++ codes " rows")))

-- a move of a path; it isn't written if it has no length
unfoldable pub move_to : List ℕ → ℕ → ℕ → List ℕ
move_to letter from to = if from == to then [] else letter ++ decimal to

-- the staircase from a point on: right to the next row, and then down to it
abbrev pub steps_down : Axes → Point → List FrontRow → List ℕ
steps_down axes at [] = []
steps_down axes at (r ∷ rows) =
    let next = point_of axes r in
    move_to (codes "H") at.x next.x ++ (move_to (codes "V") at.y next.y ++ steps_down axes next rows)

-- from the frame's top to the first row, down to the last, and right to the frame
unfoldable pub staircase : Axes → List FrontRow → List ℕ
staircase axes [] = []
staircase axes (r ∷ rows) =
    let top : Point = record { x = x_of axes r.cost; y = 56 } in
    codes "M" ++ (decimal top.x ++ (codes " 56" ++ (steps_down axes top (r ∷ rows) ++ codes "H696")))

-- the span of a mark
abbrev pub span_of : Axes → Mark → Span
span_of axes CostLine = axes.costs
span_of axes CostNumber = axes.costs
span_of axes CyclesLine = axes.cycles
span_of axes CyclesNumber = axes.cycles

-- a line across the picture at a value, or its number at the axis
unfoldable pub mark_at : Axes → Mark → ℕ → List ℕ
mark_at axes CostLine value = codes "<path d=\"M" ++ (decimal (x_of axes value) ++ codes " 56V384\"/>\n")
mark_at axes CyclesLine value = codes "<path d=\"M112 " ++ (decimal (y_of axes value) ++ codes "H696\"/>\n")
mark_at axes CostNumber value =
    codes "<text x=\"" ++ (decimal (x_of axes value) ++ (codes "\" y=\"402\">" ++ (decimal value ++ codes "</text>\n")))
mark_at axes CyclesNumber value =
    codes "<text x=\"104\" y=\""
    ++ (decimal (y_of axes value + 4) ++ (codes "\">" ++ (decimal value ++ codes "</text>\n")))

-- at each tick
unfoldable pub marks_of : Axes → Mark → List ℕ
marks_of axes mark = flat_map (mark_at axes mark) (ticks_of (span_of axes mark))

-- the radius of points: smaller if there are many
abbrev pub radius_of : ℕ → ℕ
radius_of rows = if nat_le rows 64 then 4 else 2

-- a point is filled on the hull, and hollow off it
abbrev pub fill_of : Bool → List ℕ
fill_of on_hull = if on_hull then [] else codes " fill=\"#ffffff\" stroke=\"#1f5fa8\" stroke-width=\"1.5\""

unfoldable pub circle_at : Point → ℕ → Bool → List ℕ
circle_at at radius on_hull =
    codes "<circle cx=\"" ++ (decimal at.x ++ (codes "\" cy=\"" ++ (decimal at.y
    ++ (codes "\" r=\"" ++ (decimal radius ++ (codes "\"" ++ (fill_of on_hull ++ codes ">")))))))

-- a circle's tooltip: `row 132: cost 107, cycles 44727`
unfoldable pub row_title : FrontRow → List ℕ
row_title r =
    codes "<title>row " ++ (decimal r.row ++ (codes ": cost " ++ (decimal r.cost
    ++ (codes ", cycles " ++ (decimal r.cycles ++ codes "</title></circle>")))))

-- a row's point, given the rows on the hull
unfoldable pub circle : Axes → ℕ → List FrontRow → FrontRow → List ℕ
circle axes radius hull r = circle_at (point_of axes r) radius (is_on hull r.row) ++ row_title r

-- the same on a line
unfoldable pub circle_line : Axes → ℕ → List FrontRow → FrontRow → List ℕ
circle_line axes radius hull r = circle axes radius hull r ++ codes "\n"

-- a row's number is shown beside its point unless it would overlap the last one
abbrev pub has_room : Option Named → Point → Bool
has_room None at = true
has_room (Some last) at = nat_le (last.at.x + 4 + 7 * last.digits) at.x || nat_le (last.at.y + 12) at.y

unfoldable pub number_at : Point → ℕ → List ℕ
number_at at row =
    codes "<text x=\"" ++ (decimal (at.x + 6) ++ (codes "\" y=\"" ++ (decimal (at.y - 6)
    ++ (codes "\">" ++ (decimal row ++ codes "</text>\n")))))

abbrev pub named_point : Point → ℕ → Named
named_point at row = record { at = at; digits = length (decimal row) }

-- the numbers of the rows that have room for one
abbrev pub numbers_of : Axes → Option Named → List FrontRow → List ℕ
numbers_of axes last [] = []
numbers_of axes last (r ∷ rows) =
    let at = point_of axes r in
    if has_room last at then number_at at r.row ++ numbers_of axes (Some (named_point at r.row)) rows
    else numbers_of axes last rows

-- the picture's size, and the style of its texts
abbrev pub svg_tag : List ℕ
svg_tag = codes "<svg xmlns=\"http://www.w3.org/2000/svg\" width=\"720\" height=\"440\""

abbrev pub view_box : List ℕ
view_box = codes " viewBox=\"0 0 720 440\""

abbrev pub text_style : List ℕ
text_style = codes " font-family=\"sans-serif\" font-size=\"12\" fill=\"#333333\">\n"

unfoldable pub size_text : List ℕ
size_text = svg_tag ++ (view_box ++ text_style)

-- a white sheet with a title, which is the picture's too
abbrev pub white_sheet : List ℕ
white_sheet = codes "<rect width=\"720\" height=\"440\" fill=\"#ffffff\"/>\n"

abbrev pub title_place : List ℕ
title_place = codes "<text x=\"112\" y=\"24\" font-size=\"15\">"

unfoldable pub sheet : List ℕ → List ℕ
sheet title =
    codes "<title>" ++ (title ++ (codes "</title>\n" ++ (white_sheet ++ (title_place ++ (title ++ codes "</text>\n")))))

-- the shaded area in which rows are dominated
unfoldable pub shade : List ℕ → List ℕ
shade stairs = codes "<path d=\"" ++ (stairs ++ codes "V56Z\" fill=\"#edf3fa\"/>\n")

-- light lines at the ticks, and a frame
abbrev pub light_lines : List ℕ
light_lines = codes "<g stroke=\"#dddddd\">\n"

abbrev pub frame : List ℕ
frame = codes "<rect x=\"112\" y=\"56\" width=\"584\" height=\"328\" fill=\"none\" stroke=\"#999999\"/>\n"

unfoldable pub lines_text : Axes → List ℕ
lines_text axes =
    light_lines ++ (marks_of axes CostLine ++ (marks_of axes CyclesLine ++ (codes "</g>\n" ++ frame)))

-- the numbers at the ticks, and the names of the axes
abbrev pub centred_group : List ℕ
centred_group = codes "<g text-anchor=\"middle\">\n"

abbrev pub cost_label : List ℕ
cost_label = codes "<text x=\"404\" y=\"426\" font-size=\"14\">cost</text>\n</g>\n"

abbrev pub end_anchor : List ℕ
end_anchor = codes "<g text-anchor=\"end\">\n"

abbrev pub cycles_label : List ℕ
cycles_label = codes "<text x=\"104\" y=\"48\" font-size=\"14\">cycles</text>\n</g>\n"

unfoldable pub scales_text : Axes → List ℕ
scales_text axes =
    centred_group
    ++ (marks_of axes CostNumber ++ (cost_label ++ (end_anchor ++ (marks_of axes CyclesNumber ++ cycles_label))))

-- the staircase as a line, the points, and their rows' numbers
unfoldable pub rows_text : Axes → List ℕ → List FrontRow → List FrontRow → List ℕ
rows_text axes stairs hull rows =
    codes "<path d=\"" ++ (stairs ++ (codes "\" fill=\"none\" stroke=\"#1f5fa8\" stroke-width=\"2\"/>\n"
    ++ (codes "<g fill=\"#1f5fa8\">\n" ++ (flat_map (circle_line axes (radius_of (length rows)) hull) rows
    ++ (codes "</g>\n<g font-size=\"11\">\n" ++ (numbers_of axes None rows ++ codes "</g>\n</svg>\n"))))))

-- the picture of a front, out of `all` rows
unfoldable pub picture_of_rows : ℕ → List FrontRow → List ℕ
picture_of_rows all rows =
    let axes = axes_of rows in
    let stairs = staircase axes rows in
    size_text ++ (sheet (title_of (length rows) all) ++ (shade stairs
    ++ (lines_text axes ++ (scales_text axes ++ rows_text axes stairs (hull_of rows) rows))))

-- the picture of a study's front
abbrev pub front_picture_of : DesignSpace → List ℕ
front_picture_of s = picture_of_rows (length s.rows) (front_of_study s)
