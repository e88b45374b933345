-- The programs on whose weights the front of a study may depend.
use Rattle.std.specs.Prelude.{ℕ, ◌==◌, not, Bool, List, length}
use Rattle.std.specs.List.{filter, list_any, range_with_len}
use Rattle.tomex_study.specs.Study.{DesignSpace}
use Rattle.tomex_study.specs.StudyFront.{all_rows}
use Rattle.tomex_weights.specs.Reweighted.{own_cycles}

-- a program takes other cycles on some row than on the first one
unfoldable pub is_relevant : DesignSpace → ℕ → Bool
is_relevant s place = list_any (λ r. not (own_cycles s place r.row == own_cycles s place 0)) (all_rows s)

-- the places of these programs
unfoldable pub relevant_programs_of : DesignSpace → List ℕ
relevant_programs_of s = filter (is_relevant s) (range_with_len 0 (length s.programs))
