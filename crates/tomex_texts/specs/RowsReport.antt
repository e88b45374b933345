-- All rows of a study as CSV: a record for each row, in the order of their numbers.
use Rattle.std.specs.Prelude.{ℕ, Bool, if◌then◌else◌, List, [], ◌∷◌, ◌++◌, codes, map, slice_index_or}
use Rattle.std.specs.List.{flat_map}
use Rattle.std.specs.Fmt.{decimal}
use Rattle.tomex_config.specs.Configuration.{Configuration, plain}
use Rattle.tomex_pareto.specs.Front.{is_on}
use Rattle.tomex_pareto.specs.Hull.{hull_of}
use Rattle.tomex_pareto.specs.declared.front_row.FrontRow.{FrontRow}
use Rattle.tomex_layout.specs.Csv.{record_text}
use Rattle.tomex_study.specs.Cycles.{totals_on}
use Rattle.tomex_study.specs.StudyFront.{front_of_study}
use Rattle.tomex_study.specs.Program.{Workload}
use Rattle.tomex_study.specs.Study.{DesignSpace}
use Rattle.tomex_study.specs.StudyFront.{all_rows}
use Rattle.tomex_texts.specs.FrontReport.{row_columns, row_numbers}

-- the column of a program's own cycles, without its weight
abbrev pub cycles_column : Workload → List ℕ
cycles_column p = p.name ++ codes "_cycles"

-- the front report's columns of a configuration, one for each program, and two flags: for rows on the front, and for
-- those of them that are on its hull
unfoldable pub columns_of : DesignSpace → List (List ℕ)
columns_of s = row_columns s.wide ++ (map cycles_column s.programs ++ codes "front" ∷ codes "hull" ∷ [])

-- 1 if a row is on the front, or on its hull, else 0
abbrev pub flag : Bool → ℕ
flag is_on = if is_on then 1 else 0

-- the numbers of a row of the study in these columns, given its totals and its flags
abbrev pub numbers_of_row : Bool → FrontRow → Configuration → List ℕ → Bool → Bool → List ℕ
numbers_of_row wide r config totals on_front on_hull =
    row_numbers wide r config ++ (totals ++ flag on_front ∷ flag on_hull ∷ [])

unfoldable pub row_record : DesignSpace → FrontRow → List ℕ
row_record s r =
    let config = slice_index_or s.rows r.row plain in
    let front = front_of_study s in
    record_text (map decimal (numbers_of_row s.wide r config (totals_on s.programs config) (is_on front r.row)
    (is_on (hull_of front) r.row)))

-- the header, and a record for each row
unfoldable pub rows_text_of : DesignSpace → List ℕ
rows_text_of s = record_text (columns_of s) ++ flat_map (row_record s) (all_rows s)
