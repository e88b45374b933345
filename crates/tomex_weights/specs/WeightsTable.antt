-- The table of a study's weights: for each listed row the weights of each program for which it is on the front, and the
-- percentage by which all weights may be wrong.
use Rattle.std.specs.Prelude.{ℕ, suc, if◌then◌else◌, List, [], ◌∷◌, ◌++◌, codes, length, map, slice_index_or}
use Rattle.std.specs.Fmt.{decimal}
use Rattle.tomex_pareto.specs.Front.{is_on}
use Rattle.tomex_pareto.specs.declared.front_row.FrontRow.{FrontRow}
use Rattle.tomex_layout.specs.RowColumns.{column_of, percent_text, row_columns}
use Rattle.tomex_study.specs.Study.{DesignSpace}
use Rattle.tomex_study.specs.StudyFront.{front_of_study}
use Rattle.tomex_layout.specs.Table.{TableColumn, table_of}
use Rattle.tomex_weights.specs.Listed.{listed_rows_of}
use Rattle.tomex_weights.specs.Percent.{percent_of}
use Rattle.tomex_weights.specs.Programs.{relevant_programs_of}
use Rattle.tomex_weights.specs.Reweighted.{weight_at}
use Rattle.tomex_weights.specs.Spans.{span_of}
use Rattle.tomex_weights.specs.Texts.{span_text}

-- the percentage of a row that is on the front as stated; other rows have none
abbrev pub all_text : DesignSpace → FrontRow → List ℕ
all_text s r = if is_on (front_of_study s) r.row then percent_text (percent_of s r) else codes "-"

unfoldable pub percent_column : DesignSpace → List FrontRow → TableColumn
percent_column s rows = column_of (codes "all") (codes "-") (all_text s) rows

-- the column of the program at a place: its name, its stated weight, and its span for each row
abbrev pub name_at : DesignSpace → ℕ → List ℕ
name_at s place = slice_index_or (map (λ p. p.name) s.programs) place []

unfoldable pub weight_column : DesignSpace → List FrontRow → ℕ → TableColumn
weight_column s rows place =
    column_of (name_at s place) (decimal (weight_at s place)) (λ r. span_text (span_of s place r)) rows

abbrev pub columns_of : DesignSpace → List FrontRow → List TableColumn
columns_of s rows =
    row_columns rows ++ percent_column s rows ∷ map (weight_column s rows) (relevant_programs_of s)

-- the table of a study's weights
unfoldable pub weights_table_of : DesignSpace → List ℕ
weights_table_of s = let rows = listed_rows_of s in table_of (suc (length rows)) (columns_of s rows)
