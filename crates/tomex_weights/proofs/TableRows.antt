-- The rows and programs of the table: the listed rows are rows of the study, whose spans stand at their numbers.
use Rattle.std.proofs.Common.{◌≡◌, ◌∙◌, ◌<◌, ℕ, suc, ap, ap₂, append_assoc, arith, refl, sym, List, [], ◌∷◌, ◌++◌}
use Rattle.std.proofs.Common.{get_or, length, map, All}
use Rattle.std.specs.List.{Contains, flat_map, range_with_len}
use Rattle.std.proofs.lemmas.List.{get_or-map, length-map}
use Rattle.std.proofs.lemmas.List.Elements.{All-filter, All-map}
use Rattle.std.proofs.lemmas.List.FromFn.{get_or-range_with_len, length-range_with_len}
use Rattle.tomex_pareto.specs.declared.front_row.FrontRow.{FrontRow}
use Rattle.tomex_pareto.proofs.Pareto.{kept_there}
use Rattle.tomex_layout.specs.RowColumns.{row_columns}
use Rattle.tomex_layout.proofs.Lengths.{HasEntries, columns_long}
use Rattle.tomex_pareto.specs.declared.spans.ValueSpan.{ValueSpan}
use Rattle.tomex_study.specs.Program.{Workload}
use Rattle.tomex_study.specs.Study.{DesignSpace, IsStudy}
use Rattle.tomex_study.specs.StudyFront.{all_rows}
use Rattle.tomex_layout.specs.Table.{TableColumn}
use Rattle.tomex_weights.specs.Listed.{IsOfProgram, ProgramSpans, all_spans_of, is_listed, listed_rows_of, spans_by}
use Rattle.tomex_weights.specs.Programs.{is_relevant, relevant_programs_of}
use Rattle.tomex_weights.specs.Reweighted.{weight_at}
use Rattle.tomex_weights.specs.Spans.{span_of}
use Rattle.tomex_weights.specs.WeightsCsv.{row_records, span_record}
use Rattle.tomex_weights.specs.WeightsTable.{columns_of, name_at, percent_column, weight_column}
use Rattle.tomex_weights.proofs.Listing.{at_number}
use Rattle.tomex_weights.proofs.SmallRows.{row_of}

-- the rows

pub listed_there : (s : DesignSpace) → All (Contains (all_rows s)) (listed_rows_of s)
unfolding listed_rows_of
listed_there s = kept_there (is_listed s) (all_rows s)

pub rows_within : (s : DesignSpace) (rows : List FrontRow) → IsStudy s → All (Contains (all_rows s)) rows
    → All (λ r. r.row < length s.rows) rows
rows_within s rows is there k d within = (row_of s _ is (there k d within)).within

-- their spans

pub record StandsAt (s : DesignSpace) (p : ProgramSpans) (r : FrontRow) : Type 0 where
  pub low : r.row < length p.spans
  pub at : (d : ValueSpan) → get_or p.spans r.row d ≡ span_of s p.place r

pub stands_at : (s : DesignSpace) (p : ProgramSpans) (r : FrontRow) → IsStudy s → IsOfProgram s p
    → Contains (all_rows s) r → StandsAt s p r
stands_at s p r is its one =
    let there = at_number s r is one in
    record {
      low = rw (its.spans, length-map (all_rows s) (span_of s p.place)) there.low;
      at = λ d. ap (λ (spans : List ValueSpan). get_or spans r.row d) its.spans
          ∙ (get_or-map (span_of s p.place) (all_rows s) r.row r d there.low ∙ ap (span_of s p.place) there.at);
    }

-- the programs

relevant_within : (s : DesignSpace) → All (λ place. place < length s.programs) (relevant_programs_of s)
unfolding relevant_programs_of
relevant_within s =
    All-filter (is_relevant s) (λ (place : ℕ). place < length s.programs) (range_with_len 0 (length s.programs))
    (λ k d within. let low : k < length s.programs = rw length-range_with_len at within in
    rw (get_or-range_with_len 0 (length s.programs) k d low) (omega (arith, low)))

pub each_of_program : (s : DesignSpace) → All (IsOfProgram s) (all_spans_of s)
unfolding all_spans_of
each_of_program s =
    All-map (IsOfProgram s) (spans_by s) (relevant_programs_of s)
    (λ k d within. record { place = relevant_within s k d within; spans = refl })

-- a program of the study, its name and its weight
pub record IsProgramAt (s : DesignSpace) (place : ℕ) (p : Workload) : Type 0 where
  pub name : p.name ≡ name_at s place
  pub weight : p.weight ≡ weight_at s place

pub program_at : (s : DesignSpace) (place : ℕ) {programs : List Workload} {p : Workload} → place < length s.programs
    → programs ≡ s.programs → p ≡ get_or programs place p → IsProgramAt s place p
program_at s place {programs} {p} low all own =
    let is : p ≡ get_or s.programs place p = own ∙ ap (λ (ps : List Workload). get_or ps place p) all in
    record {
      name = ap (λ (q : Workload). q.name) is
          ∙ sym (get_or-map (λ (q : Workload). q.name) s.programs place p [] low);
      weight = ap (λ (q : Workload). q.weight) is
          ∙ sym (get_or-map (λ (q : Workload). q.weight) s.programs place p 0 low);
    }

-- the columns

columns_made : (s : DesignSpace) (rows : List FrontRow) {all : List ProgramSpans} → all ≡ all_spans_of s
    → map (λ p. weight_column s rows p.place) all ≡ map (weight_column s rows) (relevant_programs_of s)
unfolding all_spans_of
columns_made s rows is =
    ap (map (λ (p : ProgramSpans). weight_column s rows p.place)) is ∙ each (relevant_programs_of s) where
      each : (places : List ℕ) → map (λ (p : ProgramSpans). weight_column s rows p.place) (map (spans_by s) places)
          ≡ map (weight_column s rows) places
      each [] = refl
      each (place ∷ places) = ap (λ (cs : List TableColumn). weight_column s rows place ∷ cs) (each places)

pub columns_are : (s : DesignSpace) (rows : List FrontRow) (before : List TableColumn) {all : List ProgramSpans}
    {one : TableColumn} {first second after : List TableColumn} → all ≡ all_spans_of s → one ≡ percent_column s rows
    → first ≡ before ++ row_columns rows → second ≡ first ++ one ∷ []
    → after ≡ second ++ map (λ p. weight_column s rows p.place) all → after ≡ before ++ columns_of s rows
columns_are s rows before {all} {one} {first} {second} are percent own more last =
    let weights = map (weight_column s rows) (relevant_programs_of s) in
    let made : second ++ map (λ p. weight_column s rows p.place) all ≡ (first ++ one ∷ []) ++ weights =
    ap₂ (λ (xs ys : List TableColumn). xs ++ ys) more (columns_made s rows are) in
    last
    ∙ (made
    ∙ (append_assoc first (one ∷ []) weights
    ∙ (ap₂ (λ (xs : List TableColumn) (c : TableColumn). xs ++ c ∷ weights) own percent
    ∙ append_assoc before (row_columns rows) (percent_column s rows ∷ weights))))

percent_long : (s : DesignSpace) (rows : List FrontRow) → HasEntries rows (percent_column s rows)
unfolding percent_column
percent_long s rows = ap suc (length-map rows _)

weight_long : (s : DesignSpace) (rows : List FrontRow) (place : ℕ) → HasEntries rows (weight_column s rows place)
unfolding weight_column
weight_long s rows place = ap suc (length-map rows _)

pub all_long : (s : DesignSpace) (rows : List FrontRow) → All (HasEntries rows) (columns_of s rows)
all_long s rows =
    columns_long rows (percent_column s rows) (weight_column s rows) (relevant_programs_of s) (percent_long s rows)
    (weight_long s rows)

-- the records of a row, by the programs of the spans

pub records_are : (s : DesignSpace) (r : FrontRow) {all : List ProgramSpans} → all ≡ all_spans_of s
    → flat_map (λ p. span_record s r p.place) all ≡ row_records s r
unfolding all_spans_of row_records
records_are s r is =
    ap (flat_map (λ (p : ProgramSpans). span_record s r p.place)) is ∙ each (relevant_programs_of s) where
      each : (places : List ℕ)
          → flat_map (λ (p : ProgramSpans). span_record s r p.place) (map (spans_by s) places)
          ≡ flat_map (span_record s r) places
      each [] = refl
      each (place ∷ places) = ap (λ (more : List ℕ). span_record s r place ++ more) (each places)
