-- What a survey of a study found out.
use Rattle.std.specs.Prelude.{◌≡◌, ℕ, List, length, map, take}
use Rattle.tomex_pareto.specs.declared.front_row.FrontRow.{FrontRow}
use Rattle.tomex_study.specs.Cycles.{totals_of}
use Rattle.tomex_study.specs.Study.{DesignSpace}
use Rattle.tomex_study.specs.StudyFront.{all_rows, front_of_study}

-- for each row of a study a list that begins with its programs' totals on it
abbrev pub AreTotalsOf : DesignSpace → List (List ℕ) → Type 0
AreTotalsOf s totals = map (take (length s.programs)) totals ≡ totals_of s

-- the totals, all rows and the front are the study's
pub record IsSurvey (s : DesignSpace) (totals : List (List ℕ)) (rows front : List FrontRow) : Type 0 where
  pub totals_are : AreTotalsOf s totals
  pub rows_are : rows ≡ all_rows s
  pub front_is : front ≡ front_of_study s
