-- Two builds are compared by themselves, and any other view is of the whole study.
use Rattle.std.proofs.Common.{◌≡◌, ◌∙◌, ap, false, subst, sym}
use Rattle.tomex_study.specs.Study.{DesignSpace, IsStudy}
use Rattle.tomex_views.specs.StudyViews.{IsSurveyText, IsWithoutSurvey, lacks_program, needed}
use Rattle.tomex_views.specs.declared.study_view.SurveyView.{SurveyView}
use Rattle.tomex_views.proofs.TwoBuilds.{needs_all, old_there, text_of_needed, without_needed}
use Rattle.tomex_views.proofs.needs.needed.Goals.{in-Compare, in_default}
use Rattle.tomex_views.proofs.needs.needed.Goals as goal

pub with_only-needed-requires : goal.with_only-needed-requires
with_only-needed-requires g c =
    old_there c.args.study c.in-Compare.old.now c.in-Compare.new.now
    (subst (λ (v : SurveyView). lacks_program v c.args.study ≡ false) c.in-Compare.is c.requires)

pub returns-clause-needed : goal.returns-clause-needed
returns-clause-needed g c = elim c.match-view.branch [
  | in-Compare w ↦
      w.needed-is ∙ (w.with_only-needed.ensures ∙ ap (λ (v : SurveyView). needed v c.args.study) (sym w.in-Compare.is))
  | in_default w ↦ w.needed-is ∙ needs_all c.args.view c.args.study w.in_default.not-Compare
]

pub returns-clause-text : goal.returns-clause-text
returns-clause-text g c = λ text is.
    let same = returns-clause-needed g c in
    text_of_needed c.only_the_two_builds_matter.ensures.all c.only_the_two_builds_matter.ensures.csv
    c.args.view c.args.study text c.keeps_limits.ensures
    (subst IsStudy same c.keeps_limits-2.ensures)
    (subst (λ (s : DesignSpace). IsSurveyText c.args.view s text) same is)

pub returns-clause-refused : goal.returns-clause-refused
returns-clause-refused g c = λ error is.
    without_needed c.args.view c.args.study error
    (subst (λ (s : DesignSpace). IsWithoutSurvey c.args.view s error) (returns-clause-needed g c) is)
