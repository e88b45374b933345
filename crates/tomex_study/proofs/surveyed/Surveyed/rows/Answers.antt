-- All rows are rows of the study.
use Rattle.std.proofs.Common.{◌<◌, ◌∙◌, ap, length, subst, sym, All, List}
use Rattle.tomex_pareto.specs.declared.front_row.FrontRow.{FrontRow}
use Rattle.tomex_study.specs.Study.{DesignSpace}
use Rattle.tomex_study.proofs.Rows.{rows_long, rows_within}
use Rattle.tomex_study.proofs.surveyed.Surveyed.rows.Goals as goal

pub returns-clause-count : goal.returns-clause-count
returns-clause-count g c =
    let s = c.self.inside.study.now in
    ap length (c.as_slice.ensures.value ∙ c.self.invariant.rows_are)
    ∙ (rows_long s c.keeps_limits.ensures ∙ ap (λ (t : DesignSpace). length t.rows) c.self.view_is)

pub returns-clause-within : goal.returns-clause-within
returns-clause-within g c =
    let s = c.self.inside.study.now in
    let are = c.as_slice.ensures.value ∙ c.self.invariant.rows_are in
    let P : DesignSpace → Type 0 = λ t. All (λ r. r.row < length t.rows) c.as_slice.result.now in
    subst P c.self.view_is
    (subst (λ (rs : List FrontRow). All (λ r. r.row < length s.rows) rs) (sym are)
    (rows_within s c.keeps_limits.ensures))
