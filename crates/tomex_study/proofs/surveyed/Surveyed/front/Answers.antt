-- The front's rows are rows of the study.
use Rattle.std.proofs.Common.{◌<◌, ◌∙◌, length, subst, sym, All, List}
use Rattle.tomex_pareto.specs.declared.front_row.FrontRow.{FrontRow}
use Rattle.tomex_study.specs.Study.{DesignSpace}
use Rattle.tomex_study.proofs.StudyFronts.{study_rows}
use Rattle.tomex_study.proofs.surveyed.Surveyed.front.Goals as goal

pub returns-clause-within : goal.returns-clause-within
returns-clause-within g c =
    let s = c.self.inside.study.now in
    let are = c.as_slice.ensures.value ∙ c.self.invariant.front_is in
    let P : DesignSpace → Type 0 = λ t. All (λ r. r.row < length t.rows) c.as_slice.result.now in
    subst P c.self.view_is
    (subst (λ (rs : List FrontRow). All (λ r. r.row < length s.rows) rs) (sym are)
    (study_rows s c.keeps_limits.ensures))
