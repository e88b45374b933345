-- What is printed if a line asks what each function takes in two builds of a program.
use Rattle.std.specs.Prelude.{◌≡◌, ◌≢◌, ◌⊎◌, ℕ, List, []}
use Rattle.std.specs.Borrow.{Bor}
use Rattle.tomex_config.specs.Configuration.{Configuration}
use Rattle.tomex_study.specs.Study.{DesignSpace}
use Rattle.tomex_symbols.specs.Symbols.{symbols_of}
use Rattle.tomex_functions.specs.Changes.{Build, IsFunctionChanges}
use Rattle.tomex_command.specs.declared.failure.Failure.{Failure}
use Rattle.tomex_command.specs.declared.failure.Failure.TheVariants.{NoSuchChoice, NoSuchRow, SeveralRows}
use Rattle.tomex_command.specs.declared.failure.Failure.TheVariants.{NoSuchProgram, NoSymbols, Memory}
use Rattle.tomex_command_line.specs.declared.line.functions.FunctionsLine.{FunctionsLine}
use Rattle.tomex_command_line.specs.declared.line.one_run.OneRun.{OneRun}
use Rattle.tomex_command.specs.Chosen.{IsChosen, IsUnchosenIn, RunChoice, steps_in}
use Rattle.tomex_command.specs.StudyFiles.{IsStudyFailure, IsStudyWith}
use Rattle.tomex_streams.specs.Files.{Known}

-- the run of a build that the line names
abbrev pub run_of_build : FunctionsLine → Bor (List ℕ) → OneRun
run_of_build line build = record { study = line.study; config = line.config; program = build }

-- a build is a program's file, and the steps of its run
abbrev pub build_in : RunChoice → Build
build_in choice = record { file = choice.file; steps = steps_in choice }

-- the text is the report of both builds, which have symbols
pub record AreReported (config : Configuration) (old new : Build) (text : List ℕ) : Type 0 where
  pub old_some : symbols_of old.file ≢ []
  pub new_some : symbols_of new.file ≢ []
  pub report : IsFunctionChanges config old new text

-- why there is no report: one of them has none, or memory was refused
abbrev pub AreUnreported : Configuration → Build → Build → Failure → Type 0
AreUnreported config old new NoSymbols = (symbols_of old.file ≡ []) ⊎ (symbols_of new.file ≡ [])
AreUnreported config old new Memory = Unit {0}
AreUnreported config old new _ = ⊥

-- the study of the line's files has the configuration and both programs, and this holds of them and their files
pub record IsOfBuilds (file : List ℕ → Known) (line : FunctionsLine) (Holds : Configuration → Build → Build → Type 0)
    : Type 0 where
  pub space : DesignSpace
  pub contents : List (List ℕ)
  pub of_files : IsStudyWith file line.study.now space contents
  pub old : RunChoice
  pub new : RunChoice
  pub old_chosen : IsChosen space contents (run_of_build line line.builds.old) old
  pub new_chosen : IsChosen space contents (run_of_build line line.builds.new) new
  pub holds : Holds old.config (build_in old) (build_in new)

abbrev pub IsFunctionsOf : (List ℕ → Known) → FunctionsLine → List ℕ → Type 0
IsFunctionsOf file line text = IsOfBuilds file line (λ config old new. AreReported config old new text)

-- a build isn't chosen, for this reason; the old one is looked for first
abbrev pub IsBuildUnchosen : (List ℕ → Known) → FunctionsLine → Failure → Type 0
IsBuildUnchosen file line failure =
    IsUnchosenIn file (run_of_build line line.builds.old) failure
    ⊎ IsUnchosenIn file (run_of_build line line.builds.new) failure

-- when each failure comes: the whole study first, then the configuration, then the programs, then their symbols
abbrev pub IsFunctionsFailure : (List ℕ → Known) → FunctionsLine → Failure → Type 0
IsFunctionsFailure file line (NoSuchChoice choice) = IsBuildUnchosen file line (NoSuchChoice choice)
IsFunctionsFailure file line NoSuchRow = IsBuildUnchosen file line NoSuchRow
IsFunctionsFailure file line (SeveralRows n) = IsBuildUnchosen file line (SeveralRows n)
IsFunctionsFailure file line NoSuchProgram = IsBuildUnchosen file line NoSuchProgram
IsFunctionsFailure file line NoSymbols =
    IsOfBuilds file line (λ config old new. AreUnreported config old new NoSymbols)
IsFunctionsFailure file line failure = IsStudyFailure file line.study.now failure
