-- The picture of a study's front over all of its rows, in a page whose views are rows: the circles of these rows link
-- to them.
-- Source: the HTML Living Standard, 4.8.16 (SVG in HTML); Scalable Vector Graphics 1.1, section 17.1 (links).
use Rattle.std.specs.Prelude.{ℕ, Bool, if◌then◌else◌, List, ◌++◌, codes, length, None}
use Rattle.std.specs.Fmt.{decimal}
use Rattle.std.specs.List.{flat_map}
use Rattle.tomex_pareto.specs.Front.{is_on}
use Rattle.tomex_pareto.specs.declared.front_row.FrontRow.{FrontRow}
use Rattle.tomex_study.specs.StudyFront.{all_rows, front_of_study}
use Rattle.tomex_study.specs.Study.{DesignSpace}
use Rattle.tomex_front_views.specs.Axes.{axes_of}
use Rattle.tomex_front_views.specs.Dots.{dots_line}
use Rattle.tomex_front_views.specs.Plot.{circle, lines_text, numbers_of, radius_of, scales_text, shade, sheet}
use Rattle.tomex_front_views.specs.Plot.{size_text, staircase, title_of}
use Rattle.tomex_front_views.specs.declared.plot.axes.Axes.{Axes}

-- a link to a row's view
unfoldable pub link_start : ℕ → List ℕ
link_start row = codes "<a href=\"#r" ++ (decimal row ++ codes "\">")

unfoldable pub link_to : ℕ → List ℕ → List ℕ
link_to row text = link_start row ++ (text ++ codes "</a>")

-- a row's point, which is a link if the row is shown
unfoldable pub linked_circle : Axes → ℕ → List FrontRow → List FrontRow → FrontRow → List ℕ
linked_circle axes radius hull shown r =
    if is_on shown r.row then link_to r.row (circle axes radius hull r) else circle axes radius hull r

-- the same on a line
unfoldable pub linked_line : Axes → ℕ → List FrontRow → List FrontRow → FrontRow → List ℕ
linked_line axes radius hull shown r = linked_circle axes radius hull shown r ++ codes "\n"

-- the staircase as a line, the points, and their rows' numbers
unfoldable pub linked_rows : Axes → List ℕ → List FrontRow → List FrontRow → List FrontRow → List ℕ
linked_rows axes stairs hull shown front =
    codes "<path d=\"" ++ (stairs ++ (codes "\" fill=\"none\" stroke=\"#1f5fa8\" stroke-width=\"2\"/>\n"
    ++ (codes "<g fill=\"#1f5fa8\">\n" ++ (flat_map (linked_line axes (radius_of (length front)) hull shown) front
    ++ (codes "</g>\n<g font-size=\"11\">\n" ++ (numbers_of axes None front ++ codes "</g>\n</svg>\n"))))))

-- the picture of a front, drawn over dots for all rows, `all` in number
unfoldable pub linked_over : ℕ → List FrontRow → List FrontRow → List FrontRow → List FrontRow → List ℕ
linked_over all rows front hull shown =
    let axes = axes_of rows in
    let stairs = staircase axes front in
    size_text ++ (sheet (title_of (length front) all) ++ (shade stairs ++ (lines_text axes ++ (scales_text axes
    ++ (dots_line axes rows ++ linked_rows axes stairs hull shown front)))))

-- that of a study's front, given the rows on its hull
abbrev pub linked_picture_of : DesignSpace → List FrontRow → List FrontRow → List ℕ
linked_picture_of s hull shown = linked_over (length s.rows) (all_rows s) (front_of_study s) hull shown
