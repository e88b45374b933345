-- What is printed of one run of a study: by `times`, `stalls`, `path`, `loops`, `pipeline`, `tables` and `animate`.
use Rattle.std.specs.Prelude.{◌≡◌, ◌≢◌, ◌<◌, ◌≤◌, ℕ, Bool, true, false, if◌then◌else◌, List, []}
use Rattle.tomex_rvexec.specs.declared.step.Step.{Step}
use Rattle.tomex_config.specs.Configuration.{Configuration}
use Rattle.tomex_symbols.specs.Symbols.{symbols_of}
use Rattle.tomex_timing.specs.Tables.{tables_of}
use Rattle.tomex_timing.specs.Run.{run_of, total}
use Rattle.tomex_study.specs.Program.{Workload}
use Rattle.tomex_texts.specs.TablesText.{tables_text_of}
use Rattle.tomex_texts.specs.TimesReport.{times_report_of}
use Rattle.tomex_run_views.specs.ByPlace.{IsReportByPlace}
use Rattle.tomex_run_views.specs.Chart.{IsPictureOf, IsUnpictured}
use Rattle.tomex_run_views.specs.StallsReport.{IsStallsReport}
use Rattle.tomex_run_views.specs.declared.picture_error.PictureError.TheVariants as pictures
use Rattle.tomex_konata.specs.Konata.{IsLogOf}
use Rattle.tomex_loop_views.specs.LoopsReport.{IsLoopsReport}
use Rattle.tomex_functions.specs.ByFunction.{IsReportByFunction}
use Rattle.tomex_functions.specs.ByPlace as with_functions
use Rattle.tomex_path_views.specs.ByFunction as path_with_functions
use Rattle.tomex_path_views.specs.ByFunction.{IsPathByFunction}
use Rattle.tomex_path_views.specs.ByLink.{IsPathLinks}
use Rattle.tomex_path_views.specs.ByPlace.{IsPathByPlace}
use Rattle.tomex_path_views.specs.ByReason.{IsPathReport}
use Rattle.tomex_animate.specs.Page.{IsAnimation, IsUnanimated}
use Rattle.tomex_animate.specs.declared.animation_error.AnimationError.TheVariants as animations
use Rattle.tomex_animate.specs.declared.cells.Cells.{Cells}
use Rattle.tomex_animate.specs.declared.cells.Cells.TheVariants as cells
use Rattle.tomex_command_line.specs.declared.line.one_run.OneRun.{OneRun}
use Rattle.tomex_command.specs.declared.commands.run_view.RunView.{RunView}
use Rattle.tomex_command.specs.declared.commands.run_view.RunView.TheVariants.{Times, Stalls, Path, Loops, Pipeline}
use Rattle.tomex_command.specs.declared.commands.run_view.RunView.TheVariants.{Tables, Animate}
use Rattle.tomex_command.specs.declared.failure.Failure.{Failure}
use Rattle.tomex_command.specs.declared.failure.Failure.TheVariants.{NoSuchChoice, NoSuchRow, SeveralRows}
use Rattle.tomex_command.specs.declared.failure.Failure.TheVariants.{NoSuchProgram, NoSymbols, NoSuchStep, CyclePastEnd}
use Rattle.tomex_command.specs.declared.failure.Failure.TheVariants.{PictureTooLarge, Memory}
use Rattle.tomex_command.specs.Chosen.{IsOfRun, IsUnchosenIn, RunChoice, steps_in}
use Rattle.tomex_command.specs.StudyFiles.{IsStudyFailure}
use Rattle.tomex_streams.specs.Files.{Known}

-- the run that a view is of
abbrev pub run_of_view : RunView → OneRun
run_of_view (Times run) = run
run_of_view (Stalls line) = line.run
run_of_view (Path line) = line.run
run_of_view (Loops run) = run
run_of_view (Pipeline line) = line.run
run_of_view (Tables line) = line.run
run_of_view (Animate line) = line.run

-- the waits that are asked for, by place or not, and by function or not; by function only of a file with symbols
abbrev pub AreStalls : (by_pc by_function : Bool) → Configuration → List Step → List ℕ → List ℕ → Type 0
AreStalls false false config steps bytes text = IsStallsReport config steps text
AreStalls true false config steps bytes text = IsReportByPlace config steps text
AreStalls false true config steps bytes text =
    (symbols_of bytes ≢ []) × IsReportByFunction bytes config steps text
AreStalls true true config steps bytes text =
    (symbols_of bytes ≢ []) × with_functions.IsReportByPlace bytes config steps text

-- the finest of the forms of a path that are asked for, without functions: links, places, or parts
abbrev pub IsPathWithout : (links by_pc : Bool) → Configuration → List Step → List ℕ → Type 0
IsPathWithout true by_pc config steps text = IsPathLinks config steps text
IsPathWithout false true config steps text = IsPathByPlace config steps text
IsPathWithout false false config steps text = IsPathReport config steps text

-- and with the functions of a file's symbols
abbrev pub IsPathWith : (links by_pc : Bool) → List ℕ → Configuration → List Step → List ℕ → Type 0
IsPathWith true by_pc bytes config steps text = path_with_functions.IsPathLinks bytes config steps text
IsPathWith false true bytes config steps text = path_with_functions.IsPathByPlace bytes config steps text
IsPathWith false false bytes config steps text = IsPathByFunction bytes config steps text

-- the path that is asked for; by function only of a file with symbols
abbrev pub IsPath : (links by_pc by_function : Bool) → Configuration → List Step → List ℕ → List ℕ → Type 0
IsPath links by_pc false config steps bytes text = IsPathWithout links by_pc config steps text
IsPath links by_pc true config steps bytes text =
    (symbols_of bytes ≢ []) × IsPathWith links by_pc bytes config steps text

-- the log of a number of steps from one on, or their picture
abbrev pub IsLogOrPicture : (konata : Bool) → Configuration → List Step → ℕ → ℕ → List ℕ → Type 0
IsLogOrPicture true config steps from count text = IsLogOf config steps from count text
IsLogOrPicture false config steps from count text = IsPictureOf config steps from count text

-- the cycle is not past the end of the program's run, and the text is that of the tables after it
pub record IsTextAfter (config : Configuration) (program : Workload) (cycle : ℕ) (text : List ℕ) : Type 0 where
  pub reached : cycle ≤ total config program.image
  pub tables : text ≡ tables_text_of (tables_of cycle (run_of config program.image))

-- a page's cells, by whether they are left empty
abbrev pub cells_for : Bool → Cells
cells_for blank = if blank then cells.Blank else cells.Filled

-- the text is what a view shows of a run; a page has the study's name as it stands in the line
abbrev pub IsShown : RunView → RunChoice → List ℕ → Type 0
IsShown (Times run) c text = text ≡ times_report_of c.config (steps_in c)
IsShown (Stalls line) c text = AreStalls line.by_pc line.by_function c.config (steps_in c) c.file text
IsShown (Path line) c text = IsPath line.links line.by_pc line.by_function c.config (steps_in c) c.file text
IsShown (Loops run) c text = IsLoopsReport c.config (steps_in c) c.file text
IsShown (Pipeline line) c text = IsLogOrPicture line.konata c.config (steps_in c) line.from line.steps text
IsShown (Tables line) c text = IsTextAfter c.config c.program line.cycle text
IsShown (Animate line) c text =
    IsAnimation (cells_for line.blank) line.run.study.now c.program c.number c.config line.from line.cycles text

-- functions are asked for, and the file has no symbols
abbrev pub HasNoSymbols : Bool → RunChoice → Type 0
HasNoSymbols by_function c = (by_function ≡ true) × (symbols_of c.file ≡ [])

-- why a view shows nothing of a run: it has no symbols, no such step, too large a picture, or no such cycle; memory may
-- run out at any time
abbrev pub IsNotShown : Failure → RunView → RunChoice → Type 0
IsNotShown NoSymbols (Stalls line) c = HasNoSymbols line.by_function c
IsNotShown NoSymbols (Path line) c = HasNoSymbols line.by_function c
IsNotShown NoSymbols view c = ⊥
IsNotShown NoSuchStep (Pipeline line) c =
    IsUnpictured c.config (steps_in c) line.from line.steps pictures.NoSuchStep
IsNotShown NoSuchStep view c = ⊥
IsNotShown PictureTooLarge (Pipeline line) c =
    (line.konata ≡ false) × IsUnpictured c.config (steps_in c) line.from line.steps pictures.TooLarge
IsNotShown PictureTooLarge view c = ⊥
IsNotShown CyclePastEnd (Tables line) c = total c.config c.program.image < line.cycle
IsNotShown CyclePastEnd (Animate line) c = IsUnanimated c.config (steps_in c) line.from animations.PastEnd
IsNotShown CyclePastEnd view c = ⊥
IsNotShown Memory view c = Unit {0}
IsNotShown failure view c = ⊥

-- the study of the line's files has the run, and the text is what the view shows of it
abbrev pub IsRunViewOf : RunView → (List ℕ → Known) → List ℕ → Type 0
IsRunViewOf view file text = IsOfRun file (run_of_view view) (λ choice. IsShown view choice text)

-- it has the run, and the view shows nothing of it, for this reason
abbrev pub IsUnshown : RunView → (List ℕ → Known) → Failure → Type 0
IsUnshown view file failure = IsOfRun file (run_of_view view) (λ choice. IsNotShown failure view choice)

-- when each failure comes: those of the study, then of the configuration, then of the program, then of the view
abbrev pub IsRunViewFailure : RunView → (List ℕ → Known) → Failure → Type 0
IsRunViewFailure view file (NoSuchChoice choice) = IsUnchosenIn file (run_of_view view) (NoSuchChoice choice)
IsRunViewFailure view file NoSuchRow = IsUnchosenIn file (run_of_view view) NoSuchRow
IsRunViewFailure view file (SeveralRows n) = IsUnchosenIn file (run_of_view view) (SeveralRows n)
IsRunViewFailure view file NoSuchProgram = IsUnchosenIn file (run_of_view view) NoSuchProgram
IsRunViewFailure view file NoSymbols = IsUnshown view file NoSymbols
IsRunViewFailure view file NoSuchStep = IsUnshown view file NoSuchStep
IsRunViewFailure view file PictureTooLarge = IsUnshown view file PictureTooLarge
IsRunViewFailure view file CyclePastEnd = IsUnshown view file CyclePastEnd
IsRunViewFailure view file failure = IsStudyFailure file (run_of_view view).study.now failure
