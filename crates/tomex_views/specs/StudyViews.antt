-- The texts of a study's views, and when there is none: of the study, and from its bytes and files.
use Rattle.std.specs.Prelude.{◌≡◌, ℕ, ◌&&◌, is_some, not, Bool, true, false, List, [], Option, Some, None}
use Rattle.std.specs.List.{position}
use Rattle.std.specs.Str.{bytes_eq}
use Rattle.tomex_study.specs.Selection.{with_only}
use Rattle.tomex_study.specs.Study.{DesignSpace}
use Rattle.tomex_document.specs.Study.{IsStudyOf, IsStudyRefusal}
use Rattle.tomex_front_views.specs.FrontTable.{front_table_of, hull_table_of}
use Rattle.tomex_front_views.specs.Plot.{front_picture_of}
use Rattle.tomex_find.specs.RowName.{IsNoRow, row_named}
use Rattle.tomex_front_views.specs.RowsPlot.{rows_picture_of}
use Rattle.tomex_find.specs.declared.row_name.RowError.{RowError}
use Rattle.tomex_find.specs.declared.row_name.RowError.TheVariants as rows
use Rattle.tomex_texts.specs.RowsReport.{rows_text_of}
use Rattle.tomex_worth.specs.Worth.{worth_table_of}
use Rattle.tomex_worth.specs.WorthCsv.{worth_csv_of}
use Rattle.tomex_prices.specs.PricesCsv.{prices_csv_of}
use Rattle.tomex_prices.specs.PricesTable.{is_too_large, prices_table_of}
use Rattle.tomex_prices.specs.declared.prices_error.PricesError.{PricesError}
use Rattle.tomex_prices.specs.declared.prices_error.PricesError.TheVariants as prices
use Rattle.tomex_weights.specs.WeightsCsv.{weights_csv_of}
use Rattle.tomex_weights.specs.WeightsTable.{weights_table_of}
use Rattle.tomex_compare.specs.Compare.{compare_table_of}
use Rattle.tomex_compare.specs.GroupCsv.{compare_csv_of}
use Rattle.tomex_choices.specs.Reports.{list_reports}
use Rattle.tomex_choices_table.specs.ChoicesCsv.{choices_csv_of}
use Rattle.tomex_choices_table.specs.ChoicesTable.{choices_table_of}
use Rattle.tomex_page.specs.Page.{page_of}
use Rattle.tomex_survey.specs.Floors.{floors_of}
use Rattle.tomex_views.specs.declared.study_view.ChoicesView.{ChoicesView}
use Rattle.tomex_views.specs.declared.study_view.ChoicesView.TheVariants as choices
use Rattle.tomex_views.specs.declared.study_view.Form.{Form}
use Rattle.tomex_views.specs.declared.study_view.Form.TheVariants as forms
use Rattle.tomex_views.specs.declared.study_view.StudyView.{StudyView}
use Rattle.tomex_views.specs.declared.study_view.StudyView.TheVariants.{Survey, Choices}
use Rattle.tomex_views.specs.declared.study_view.SurveyView.{SurveyView}
use Rattle.tomex_views.specs.declared.study_view.SurveyView.TheVariants.{Table, Hull, Picture, RowsPicture, Rows}
use Rattle.tomex_views.specs.declared.study_view.SurveyView.TheVariants.{Worth, Prices, Weights, Compare, Page}
use Rattle.tomex_views.specs.declared.view_error.ViewError.{ViewError}
use Rattle.tomex_views.specs.declared.view_error.ViewError.TheVariants.{Study, NoSuchRow, NoSuchProgram, TooLarge}
use Rattle.tomex_views.specs.declared.view_error.ViewError.TheVariants.{NoSuchChoice, SeveralRows, Memory}

-- the place of the first program of that name
abbrev pub place_of : List ℕ → DesignSpace → Option ℕ
place_of name s = position (λ p. bytes_eq p.name name) s.programs

-- what is printed of two builds, the programs at these places; both have to be there
abbrev pub compared_at : Form → DesignSpace → (old new : ℕ) → List ℕ
compared_at forms.Table s old new = compare_table_of s old new
compared_at forms.Csv s old new = compare_csv_of s old new

abbrev pub compared : Form → DesignSpace → (old new : Option ℕ) → List ℕ
compared form s (Some old) (Some new) = compared_at form s old new
compared form s _ _ = []

-- what changes bring on a row, which has to be there
abbrev pub worth_at : Form → DesignSpace → ℕ → List ℕ
worth_at forms.Table s row = worth_table_of s row
worth_at forms.Csv s row = worth_csv_of s row

abbrev pub worth_of : Form → DesignSpace → Option ℕ → List ℕ
worth_of form s (Some row) = worth_at form s row
worth_of form s None = []

-- the prices, the weights and the choices
abbrev pub prices_of : Form → DesignSpace → List ℕ
prices_of forms.Table s = prices_table_of s
prices_of forms.Csv s = prices_csv_of s

abbrev pub weights_of : Form → DesignSpace → List ℕ
weights_of forms.Table s = weights_table_of s
weights_of forms.Csv s = weights_csv_of s

abbrev pub choices_of : Form → DesignSpace → List ℕ
choices_of forms.Table s = choices_table_of (list_reports s) (floors_of s)
choices_of forms.Csv s = choices_csv_of (list_reports s)

-- the text of a study's front, or of all its rows
abbrev pub survey_text : SurveyView → DesignSpace → List ℕ
survey_text Table s = front_table_of s
survey_text Hull s = hull_table_of s
survey_text Picture s = front_picture_of s
survey_text RowsPicture s = rows_picture_of s
survey_text Rows s = rows_text_of s
survey_text (Worth name form) s = worth_of form s (row_named s name)
survey_text (Prices form) s = prices_of form s
survey_text (Weights form) s = weights_of form s
survey_text (Compare old new form) s = compared form s (place_of old.now s) (place_of new.now s)
survey_text (Page name) s = page_of None (floors_of s) name.now s

-- and with what its lists lack
abbrev pub choices_text : ChoicesView → DesignSpace → List ℕ
choices_text (choices.Lists form) s = choices_of form s
choices_text (choices.Page name) s = page_of (Some (list_reports s)) (floors_of s) name.now s

-- the view is of a program that the study doesn't have
abbrev pub lacks_program : SurveyView → DesignSpace → Bool
lacks_program (Compare old new form) s = not (is_some (place_of old.now s) && is_some (place_of new.now s))
lacks_program view s = false

-- the study that a view is made of: two builds are compared by themselves
abbrev pub needed : SurveyView → DesignSpace → DesignSpace
needed (Compare old new form) s = with_only old.now new.now s
needed view s = s

-- the study has a text: it has a configuration of this name, or programs of these names, and its table of prices isn't
-- too large
abbrev pub HasSurvey : SurveyView → DesignSpace → Type 0
HasSurvey (Worth name form) s = is_some (row_named s name) ≡ true
HasSurvey (Prices form) s = is_too_large s ≡ false
HasSurvey (Compare old new form) s = lacks_program (Compare old new form) s ≡ false
HasSurvey view s = Unit {0}

-- the text is what is printed of a study's front or rows
pub record IsSurveyText (view : SurveyView) (s : DesignSpace) (text : List ℕ) : Type 0 where
  pub has_text : HasSurvey view s
  pub text_is : text ≡ survey_text view s

-- why a study has no such text; or out of memory
abbrev pub IsWithoutSurvey : SurveyView → DesignSpace → ViewError → Type 0
IsWithoutSurvey (Worth name form) s (NoSuchChoice choice) = IsNoRow s name (rows.NoSuchChoice choice)
IsWithoutSurvey (Worth name form) s NoSuchRow = IsNoRow s name rows.NoSuchRow
IsWithoutSurvey (Worth name form) s (SeveralRows n) = IsNoRow s name (rows.SeveralRows n)
IsWithoutSurvey (Prices form) s TooLarge = is_too_large s ≡ true
IsWithoutSurvey (Compare old new form) s NoSuchProgram = lacks_program (Compare old new form) s ≡ true
IsWithoutSurvey view s Memory = Unit {0}
IsWithoutSurvey view s error = ⊥

-- the text is the study's in a view
abbrev pub IsTextOf : StudyView → DesignSpace → List ℕ → Type 0
IsTextOf (Survey view) s text = IsSurveyText view s text
IsTextOf (Choices view) s text = text ≡ choices_text view s

-- why it has none; with what its lists lack it has one, except out of memory
abbrev pub IsWithoutText : StudyView → DesignSpace → ViewError → Type 0
IsWithoutText (Survey view) s error = IsWithoutSurvey view s error
IsWithoutText (Choices view) s Memory = Unit {0}
IsWithoutText (Choices view) s error = ⊥

-- the bytes and the files are those of a study, and the text is that of the view
abbrev pub IsTextFrom : StudyView → List ℕ → List (List ℕ) → List ℕ → Type 0
IsTextFrom view bytes files text = (s : DesignSpace) × IsStudyOf bytes files s × IsTextOf view s text

-- they are those of a study that has no such text for this reason, or out of memory
abbrev pub IsWithoutTextFrom : StudyView → List ℕ → List (List ℕ) → ViewError → Type 0
IsWithoutTextFrom view bytes files error = (s : DesignSpace) × IsStudyOf bytes files s × IsWithoutText view s error

-- the study's own refusal; or it is a study, and has no such text
abbrev pub IsViewRefusal : StudyView → List ℕ → List (List ℕ) → ViewError → Type 0
IsViewRefusal view bytes files (Study error) = IsStudyRefusal bytes files error
IsViewRefusal view bytes files error = IsWithoutTextFrom view bytes files error

abbrev pub error_of_prices : PricesError → ViewError
error_of_prices prices.TooLarge = TooLarge
error_of_prices prices.Memory = Memory

abbrev pub error_of_row : RowError → ViewError
error_of_row (rows.NoSuchChoice choice) = NoSuchChoice choice
error_of_row rows.NoSuchRow = NoSuchRow
error_of_row (rows.SeveralRows n) = SeveralRows n
error_of_row rows.Memory = Memory
