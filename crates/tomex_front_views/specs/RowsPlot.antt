-- The picture of a study's front over all of its rows.
use Rattle.std.specs.Prelude.{ℕ, List, ◌++◌, length}
use Rattle.tomex_pareto.specs.Hull.{hull_of}
use Rattle.tomex_pareto.specs.declared.front_row.FrontRow.{FrontRow}
use Rattle.tomex_study.specs.StudyFront.{front_of_study}
use Rattle.tomex_study.specs.Study.{DesignSpace}
use Rattle.tomex_study.specs.StudyFront.{all_rows}
use Rattle.tomex_front_views.specs.Axes.{axes_of}
use Rattle.tomex_front_views.specs.Dots.{dots_line}
use Rattle.tomex_front_views.specs.Plot.{lines_text, rows_text, scales_text, shade, sheet, size_text, staircase}
use Rattle.tomex_front_views.specs.Plot.{title_of}

-- the picture of a front, drawn over dots for all rows, `all` in number, which determine the axes
unfoldable pub picture_over : ℕ → List FrontRow → List FrontRow → List ℕ
picture_over all rows front =
    let axes = axes_of rows in
    let stairs = staircase axes front in
    size_text ++ (sheet (title_of (length front) all) ++ (shade stairs ++ (lines_text axes ++ (scales_text axes
    ++ (dots_line axes rows ++ rows_text axes stairs (hull_of front) front)))))

-- that of a study's front
abbrev pub rows_picture_of : DesignSpace → List ℕ
rows_picture_of s = picture_over (length s.rows) (all_rows s) (front_of_study s)
