-- Which rows a table of weights lists: those on the front, and those that join it if one weight is replaced.
use Rattle.std.specs.Prelude.{◌≡◌, ℕ, ◌<◌, nat_lt, Bool, ◌||◌, List, length, map}
use Rattle.std.specs.List.{filter, list_any}
use Rattle.tomex_pareto.specs.Front.{by_cost, is_on}
use Rattle.tomex_pareto.specs.declared.front_row.FrontRow.{FrontRow}
use Rattle.tomex_pareto.specs.declared.spans.ValueSpan.{ValueSpan}
use Rattle.tomex_study.specs.Study.{DesignSpace}
use Rattle.tomex_study.specs.StudyFront.{all_rows, front_of_study}
use Rattle.tomex_weights.specs.Programs.{relevant_programs_of}
use Rattle.tomex_weights.specs.Spans.{span_of}

-- some weight is in it
abbrev pub has_weights : ValueSpan → Bool
has_weights s = nat_lt s.first s.end

-- a row is on the front as stated, or for some weight of some program
unfoldable pub is_listed : DesignSpace → FrontRow → Bool
is_listed s r =
    is_on (front_of_study s) r.row || list_any (λ place. has_weights (span_of s place r)) (relevant_programs_of s)

-- these rows, by cost, then number
unfoldable pub listed_rows_of : DesignSpace → List FrontRow
listed_rows_of s = by_cost (filter (is_listed s) (all_rows s))

-- the spans of all rows for the program at a place
pub record ProgramSpans : Type 0 where
  pub place : ℕ
  pub spans : List ValueSpan

abbrev pub spans_by : DesignSpace → ℕ → ProgramSpans
spans_by s place = record { place = place; spans = map (span_of s place) (all_rows s) }

-- these are the spans of one of the programs
pub record IsOfProgram (s : DesignSpace) (p : ProgramSpans) : Type 0 where
  pub place : p.place < length s.programs
  pub spans : p.spans ≡ map (span_of s p.place) (all_rows s)

-- and those of each relevant program
unfoldable pub all_spans_of : DesignSpace → List ProgramSpans
all_spans_of s = map (spans_by s) (relevant_programs_of s)
