-- A study without a text in a view was read as a study.
use Rattle.std.proofs.Common.{ℕ, List}
use Rattle.tomex_study.specs.Study.{DesignSpace}
use Rattle.tomex_document.specs.Study.{IsStudyOf}
use Rattle.tomex_document.specs.declared.error.StudyError.{StudyError}
use Rattle.tomex_views.specs.StudyViews.{IsViewRefusal, IsWithoutSurvey, IsWithoutText}
use Rattle.tomex_views.specs.declared.study_view.StudyView.{StudyView}
use Rattle.tomex_views.specs.declared.study_view.StudyView.TheVariants.{Survey, Choices}
use Rattle.tomex_views.specs.declared.study_view.SurveyView.{SurveyView}
use Rattle.tomex_views.specs.declared.study_view.SurveyView.TheVariants.{Table}
use Rattle.tomex_views.specs.declared.view_error.ViewError.{ViewError}
use Rattle.tomex_views.specs.declared.view_error.ViewError.TheVariants.{Study}

-- no view of a study has a refusal of the study itself
none_of_study : (view : SurveyView) (s : DesignSpace) (x : StudyError) → IsWithoutSurvey view s (Study x) → ⊥
none_of_study Table s x without = without
none_of_study view s x without = without

pub unviewed : (view : StudyView) (bytes : List ℕ) (files : List (List ℕ)) (s : DesignSpace) (e : ViewError)
    → IsStudyOf bytes files s → IsWithoutText view s e → IsViewRefusal view bytes files e
unviewed (Survey view) bytes files s (Study x) stands without = absurd (none_of_study view s x without)
unviewed (Choices view) bytes files s (Study x) stands without = absurd without
unviewed view bytes files s error stands without = (s, stands, without)
