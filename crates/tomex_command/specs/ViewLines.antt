-- The result of a line that asks for a view of a study: by `front`, `plot`, `rows`, `worth`, `choices`, `prices`,
-- `weights`, `compare` and `page`.
use Rattle.std.specs.Prelude.{ℕ, Bool, true, false, List}
use Rattle.tomex_command_line.specs.declared.line.page.PageLine.{PageLine}
use Rattle.tomex_views.specs.StudyViews.{IsTextFrom, IsWithoutTextFrom}
use Rattle.tomex_views.specs.declared.study_view.ChoicesView.TheVariants as choices
use Rattle.tomex_views.specs.declared.study_view.Form.{Form}
use Rattle.tomex_views.specs.declared.study_view.Form.TheVariants as forms
use Rattle.tomex_views.specs.declared.study_view.StudyView.{StudyView}
use Rattle.tomex_views.specs.declared.study_view.StudyView.TheVariants.{Survey, Choices}
use Rattle.tomex_views.specs.declared.study_view.SurveyView.{SurveyView}
use Rattle.tomex_views.specs.declared.study_view.SurveyView.TheVariants.{Table, Hull, Picture, RowsPicture, Page}
use Rattle.tomex_views.specs.declared.view_error.ViewError.{ViewError}
use Rattle.tomex_views.specs.declared.view_error.ViewError.TheVariants as errors
use Rattle.tomex_command.specs.StudyFiles.{AreSources, IsStudyFailure}
use Rattle.tomex_command.specs.declared.failure.Failure.{Failure}
use Rattle.tomex_command.specs.declared.failure.Failure.TheVariants.{NoSuchChoice, NoSuchRow, SeveralRows}
use Rattle.tomex_command.specs.declared.failure.Failure.TheVariants.{NoSuchProgram, TableTooLarge}
use Rattle.tomex_streams.specs.Files.{Known}

-- how a table is printed: as CSV, or in columns
abbrev pub form_of : Bool → Form
form_of true = forms.Csv
form_of false = forms.Table

-- the view that `front` prints: the whole front, or its hull
abbrev pub table_view : Bool → SurveyView
table_view false = Table
table_view true = Hull

-- the view that `plot` prints: the front, or the front with all rows
abbrev pub plot_view : Bool → SurveyView
plot_view false = Picture
plot_view true = RowsPicture

-- the page with or without what the lists lack; it has the study's name as it stands in the line
abbrev pub page_by : Bool → PageLine → StudyView
page_by true line = Choices (choices.Page line.explore.study)
page_by false line = Survey (Page line.explore.study)

abbrev pub page_view : PageLine → StudyView
page_view line = page_by line.choices line

-- the text is the view of the study with this name
pub record IsViewOf (view : StudyView) (file : List ℕ → Known) (name : List ℕ) (text : List ℕ) : Type 0 where
  pub bytes : List ℕ
  pub contents : List (List ℕ)
  pub sources : AreSources file name bytes contents
  pub shown : IsTextFrom view bytes contents text

-- the study with this name has no such text for this reason
pub record IsWithoutView (view : StudyView) (file : List ℕ → Known) (name : List ℕ) (error : ViewError) : Type 0 where
  pub bytes : List ℕ
  pub contents : List (List ℕ)
  pub sources : AreSources file name bytes contents
  pub without : IsWithoutTextFrom view bytes contents error

-- when each failure comes: those of the study, then that it has no such row or program, then that its table is too
-- large
abbrev pub IsViewFailure : StudyView → (List ℕ → Known) → List ℕ → Failure → Type 0
IsViewFailure view file name (NoSuchChoice choice) = IsWithoutView view file name (errors.NoSuchChoice choice)
IsViewFailure view file name NoSuchRow = IsWithoutView view file name errors.NoSuchRow
IsViewFailure view file name (SeveralRows n) = IsWithoutView view file name (errors.SeveralRows n)
IsViewFailure view file name NoSuchProgram = IsWithoutView view file name errors.NoSuchProgram
IsViewFailure view file name TableTooLarge = IsWithoutView view file name errors.TooLarge
IsViewFailure view file name failure = IsStudyFailure file name failure
