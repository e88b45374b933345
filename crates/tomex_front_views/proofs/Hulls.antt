-- The rows on the hull of a study's front are rows of the study.
use Rattle.std.proofs.Common.{◌<◌, All, length}
use Rattle.std.proofs.lemmas.List.Elements.{All-filter}
use Rattle.tomex_pareto.specs.Hull.{hull_of, is_unmixed}
use Rattle.tomex_pareto.specs.declared.front_row.FrontRow.{FrontRow}
use Rattle.tomex_study.specs.Study.{DesignSpace, IsStudy}
use Rattle.tomex_study.specs.StudyFront.{front_of_study}
use Rattle.tomex_study.proofs.StudyFronts.{study_rows}

pub hull_rows : (s : DesignSpace) → IsStudy s → All (λ r. r.row < length s.rows) (hull_of (front_of_study s))
unfolding hull_of
hull_rows s is = All-filter (is_unmixed (front_of_study s)) (λ (r : FrontRow). r.row < length s.rows)
    (front_of_study s) (study_rows s is)
