-- A study's weights as CSV: a record for each listed row and each program for some of whose weights it is on the front.
use Rattle.std.specs.Prelude.{ℕ, if◌then◌else◌, is_some, List, [], ◌∷◌, ◌++◌, codes, Option, Some, None}
use Rattle.std.specs.Fmt.{decimal}
use Rattle.std.specs.List.{flat_map}
use Rattle.tomex_layout.specs.CsvFields.{flag_field, percent_field}
use Rattle.tomex_layout.specs.Csv.{record_text}
use Rattle.tomex_pareto.specs.Front.{is_on}
use Rattle.tomex_pareto.specs.declared.front_row.FrontRow.{FrontRow}
use Rattle.tomex_pareto.specs.declared.spans.ValueSpan.{ValueSpan}
use Rattle.tomex_study.specs.Study.{DesignSpace}
use Rattle.tomex_study.specs.StudyFront.{front_of_study}
use Rattle.tomex_weights.specs.Listed.{has_weights, listed_rows_of}
use Rattle.tomex_weights.specs.Percent.{percent_of}
use Rattle.tomex_weights.specs.Programs.{relevant_programs_of}
use Rattle.tomex_weights.specs.Reweighted.{weight_at}
use Rattle.tomex_weights.specs.Spans.{span_of}
use Rattle.tomex_weights.specs.Texts.{first_text, last_text}
use Rattle.tomex_weights.specs.WeightsTable.{name_at}

abbrev pub names : List (List ℕ)
names =
    codes "row" ∷ codes "cost" ∷ codes "cycles" ∷ codes "front" ∷ codes "all" ∷ codes "program" ∷ codes "weight"
    ∷ codes "low" ∷ codes "high" ∷ []

-- the percentage of a row that is on the front as stated; other rows have none
abbrev pub percent_on_front : DesignSpace → FrontRow → Option ℕ
percent_on_front s r = if is_on (front_of_study s) r.row then Some (percent_of s r) else None

abbrev pub all_field : Option ℕ → List ℕ
all_field None = []
all_field (Some percent) = percent_field percent

-- what the records of a row begin with
abbrev pub row_fields : FrontRow → Option ℕ → List (List ℕ)
row_fields r percent =
    decimal r.row ∷ decimal r.cost ∷ decimal r.cycles ∷ flag_field (is_some percent) ∷ all_field percent ∷ []

-- the program at a place, its stated weight, and the ends of a span of its weights
abbrev pub span_fields : DesignSpace → ℕ → ValueSpan → List (List ℕ)
span_fields s place span =
    name_at s place ∷ decimal (weight_at s place) ∷ first_text span ∷ last_text span ∷ []

-- the record of a row and a program, if there is a weight
unfoldable pub span_record : DesignSpace → FrontRow → ℕ → List ℕ
span_record s r place =
    if has_weights (span_of s place r)
    then record_text (row_fields r (percent_on_front s r) ++ span_fields s place (span_of s place r)) else []

unfoldable pub row_records : DesignSpace → FrontRow → List ℕ
row_records s r = flat_map (span_record s r) (relevant_programs_of s)

unfoldable pub weights_csv_of : DesignSpace → List ℕ
weights_csv_of s = record_text names ++ flat_map (row_records s) (listed_rows_of s)
