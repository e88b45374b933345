-- The result of a run of the program. A further command is a further case of `IsDone` and of `IsFailure`.
use Rattle.std.specs.Prelude.{◌≡◌, ◌⊎◌, ◌&&◌, ℕ, Bool, true, false, IsTrue, List, option_map, string_bytes}
use Rattle.tomex_command.specs.declared.failure.Failure.{Failure}
use Rattle.tomex_command.specs.declared.failure.Failure.TheVariants.{CannotWrite, OnTerminal}
use Rattle.tomex_command_line.specs.declared.line.Line.{Line}
use Rattle.tomex_command_line.specs.declared.line.Line.TheVariants.{Run, Parts, Cut, Times}
use Rattle.tomex_command_line.specs.declared.line.Line.TheVariants.{Stalls, Path, Loops, Pipeline}
use Rattle.tomex_command_line.specs.declared.line.Line.TheVariants.{Tables, Animate, All, Explore, Front, Plot, Rows}
use Rattle.tomex_command_line.specs.declared.line.Line.TheVariants.{Worth, Choices, Prices, Weights, Compare}
use Rattle.tomex_command_line.specs.declared.line.Line.TheVariants.{Functions, Page, Find, Explain}
use Rattle.tomex_arguments.specs.declared.fault.LineFault.{LineFault}
use Rattle.tomex_command_line.specs.Asked.{IsAsked, IsNoCommand}
use Rattle.tomex_views.specs.declared.study_view.ChoicesView.TheVariants as choices
use Rattle.tomex_views.specs.declared.study_view.StudyView.TheVariants as views
use Rattle.tomex_views.specs.declared.study_view.SurveyView.TheVariants as surveys
use Rattle.tomex_streams.specs.Files.{Known}
use Rattle.tomex_command.specs.CutLines.{IsCutFailure, IsCutOf}
use Rattle.tomex_command.specs.ExplainLines.{IsExplanation, IsExplainFailure}
use Rattle.tomex_command.specs.FindLines.{IsFindOf, IsFindFailure}
use Rattle.tomex_command.specs.FunctionsLines.{IsFunctionsFailure, IsFunctionsOf}
use Rattle.tomex_command.specs.FrontLines.{IsAllFailure, IsExploreFailure, IsReportOf}
use Rattle.tomex_command.specs.PartsLines.{IsPartsFailure, IsPartsOf}
use Rattle.tomex_streams.specs.Sinks.{Seen, IsWhole, IsCut}
use Rattle.tomex_command.specs.RunLines.{IsRunOf, IsRunFailure}
use Rattle.tomex_command.specs.Chosen.{row_name}
use Rattle.tomex_command.specs.RunViews.{IsRunViewFailure, IsRunViewOf}
use Rattle.tomex_command.specs.declared.commands.run_view.RunView.TheVariants as runs
use Rattle.tomex_command.specs.ViewLines.{IsViewFailure, IsViewOf, form_of, page_view, plot_view}
use Rattle.tomex_command.specs.ViewLines.{table_view}
use Rattle.tomex_command.specs.Reporting.{IsFailureReported, IsSaid, IsFaultReported}

-- this text is what the line asks for, given the files by their names
abbrev pub IsDone : (List ℕ → Known) → Line → List ℕ → Type 0
IsDone file (Run line) text = IsRunOf file line text
IsDone file (Parts line) text = IsPartsOf file line text
IsDone file (Cut line) text = IsCutOf file line text
IsDone file (Times line) text = IsRunViewOf (runs.Times line) file text
IsDone file (Stalls line) text = IsRunViewOf (runs.Stalls line) file text
IsDone file (Path line) text = IsRunViewOf (runs.Path line) file text
IsDone file (Loops line) text = IsRunViewOf (runs.Loops line) file text
IsDone file (Pipeline line) text = IsRunViewOf (runs.Pipeline line) file text
IsDone file (Tables line) text = IsRunViewOf (runs.Tables line) file text
IsDone file (Animate line) text = IsRunViewOf (runs.Animate line) file text
IsDone file (All line) text = IsReportOf file line.study.now text
IsDone file (Explore line) text = IsReportOf file line.study.now text
IsDone file (Front line) text = IsViewOf (views.Survey (table_view line.hull)) file line.explore.study.now text
IsDone file (Plot line) text = IsViewOf (views.Survey (plot_view line.all)) file line.explore.study.now text
IsDone file (Rows line) text = IsViewOf (views.Survey surveys.Rows) file line.study.now text
IsDone file (Worth line) text =
    IsViewOf (views.Survey (surveys.Worth (row_name line.config) (form_of line.csv))) file line.explore.study.now text
IsDone file (Choices line) text =
    IsViewOf (views.Choices (choices.Lists (form_of line.csv))) file line.explore.study.now text
IsDone file (Prices line) text =
    IsViewOf (views.Survey (surveys.Prices (form_of line.csv))) file line.explore.study.now text
IsDone file (Weights line) text =
    IsViewOf (views.Survey (surveys.Weights (form_of line.csv))) file line.explore.study.now text
IsDone file (Compare line) text =
    IsViewOf (views.Survey (surveys.Compare line.builds.old line.builds.new (form_of line.csv))) file
    line.explore.study.now text
IsDone file (Functions line) text = IsFunctionsOf file line text
IsDone file (Page line) text = IsViewOf (page_view line) file line.explore.study.now text
IsDone file (Find line) text = IsFindOf file line text
IsDone file (Explain line) text = IsExplanation (option_map string_bytes line.refusal) text

-- the line has no text, for this reason
abbrev pub IsFailure : (List ℕ → Known) → Line → Failure → Type 0
IsFailure file (Run line) failure = IsRunFailure file line failure
IsFailure file (Parts line) failure = IsPartsFailure file line failure
IsFailure file (Cut line) failure = IsCutFailure file line failure
IsFailure file (Times line) failure = IsRunViewFailure (runs.Times line) file failure
IsFailure file (Stalls line) failure = IsRunViewFailure (runs.Stalls line) file failure
IsFailure file (Path line) failure = IsRunViewFailure (runs.Path line) file failure
IsFailure file (Loops line) failure = IsRunViewFailure (runs.Loops line) file failure
IsFailure file (Pipeline line) failure = IsRunViewFailure (runs.Pipeline line) file failure
IsFailure file (Tables line) failure = IsRunViewFailure (runs.Tables line) file failure
IsFailure file (Animate line) failure = IsRunViewFailure (runs.Animate line) file failure
IsFailure file (All line) failure = IsAllFailure file line.study.now failure
IsFailure file (Explore line) failure = IsExploreFailure file line.study.now failure
IsFailure file (Front line) failure =
    IsViewFailure (views.Survey (table_view line.hull)) file line.explore.study.now failure
IsFailure file (Plot line) failure =
    IsViewFailure (views.Survey (plot_view line.all)) file line.explore.study.now failure
IsFailure file (Rows line) failure = IsViewFailure (views.Survey surveys.Rows) file line.study.now failure
IsFailure file (Worth line) failure =
    IsViewFailure (views.Survey (surveys.Worth (row_name line.config) (form_of line.csv))) file
    line.explore.study.now failure
IsFailure file (Choices line) failure =
    IsViewFailure (views.Choices (choices.Lists (form_of line.csv))) file line.explore.study.now failure
IsFailure file (Prices line) failure =
    IsViewFailure (views.Survey (surveys.Prices (form_of line.csv))) file line.explore.study.now failure
IsFailure file (Weights line) failure =
    IsViewFailure (views.Survey (surveys.Weights (form_of line.csv))) file line.explore.study.now failure
IsFailure file (Compare line) failure =
    IsViewFailure (views.Survey (surveys.Compare line.builds.old line.builds.new (form_of line.csv))) file
    line.explore.study.now failure
IsFailure file (Functions line) failure = IsFunctionsFailure file line failure
IsFailure file (Page line) failure = IsViewFailure (page_view line) file line.explore.study.now failure
IsFailure file (Find line) failure = IsFindFailure file line failure
IsFailure file (Explain line) failure = IsExplainFailure (option_map string_bytes line.refusal) failure

-- a command prints an image, which isn't text
abbrev pub prints_image : Line → Bool
prints_image (Cut line) = true
prints_image line = false

-- its output is a terminal, and that is of no use to anybody
abbrev pub IsUnfit : Bool → Line → Type 0
IsUnfit terminal line = IsTrue (terminal && prints_image line)

-- a line was carried out: its text is on the output
pub record IsCarriedOut (file : List ℕ → Known) (terminal : Bool) (line : Line) (old new : Seen) : Type 0 where
  pub fits : IsUnfit terminal line → ⊥
  pub text : List ℕ
  pub is_done : IsDone file line text
  pub written : IsWhole text old new

-- its text was made, and the output took only a first part of it
pub record IsCutShort (file : List ℕ → Known) (terminal : Bool) (line : Line) (old new : Seen) : Type 0 where
  pub fits : IsUnfit terminal line → ⊥
  pub text : List ℕ
  pub is_done : IsDone file line text
  pub cut : IsCut text old new

-- a line was not carried out: an image would go to a terminal, the output failed, or the line has no text; nothing is
-- on the output unless it failed
abbrev pub IsLeft : (List ℕ → Known) → Bool → Line → Failure → Seen → Seen → Type 0
IsLeft file terminal line OnTerminal old new = IsUnfit terminal line × (new ≡ old)
IsLeft file terminal line CannotWrite old new = IsCutShort file terminal line old new
IsLeft file terminal line failure old new = (IsUnfit terminal line → ⊥) × IsFailure file line failure × (new ≡ old)

-- help or the refusal of a line was printed
pub record IsToldOnly (words : List (List ℕ)) (status : ℕ) (out-old out err-old err : Seen) : Type 0 where
  pub fault : LineFault
  pub no_command : IsNoCommand words fault
  pub reported : IsFaultReported fault status out-old out
  pub said : IsSaid fault status err-old err

-- the line that the words ask for was carried out
pub record HasDone (words : List (List ℕ)) (file : List ℕ → Known) (terminal : Bool) (status : ℕ)
    (out-old out err-old err : Seen) : Type 0 where
  pub line : Line
  pub asked : IsAsked words line
  pub carried_out : IsCarriedOut file terminal line out-old out
  pub status_is : status ≡ 0
  pub nothing_said : err ≡ err-old

-- the line that the words ask for failed, and that was reported
pub record HasFailed (words : List (List ℕ)) (file : List ℕ → Known) (terminal : Bool) (status : ℕ)
    (out-old out err-old err : Seen) : Type 0 where
  pub line : Line
  pub asked : IsAsked words line
  pub failure : Failure
  pub left : IsLeft file terminal line failure out-old out
  pub reported : IsFailureReported failure status err-old err

-- the end of a run of the program, whose output is a terminal or isn't
abbrev pub IsEnd : List (List ℕ) → (List ℕ → Known) → Bool → ℕ → Seen → Seen → Seen → Seen → Type 0
IsEnd words file terminal status out-old out err-old err =
    IsToldOnly words status out-old out err-old err
    ⊎ (HasDone words file terminal status out-old out err-old err
    ⊎ HasFailed words file terminal status out-old out err-old err)
