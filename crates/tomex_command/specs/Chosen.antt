-- The run that a line chooses of a study: a configuration and a program by their names, and the program's file.
use Rattle.std.specs.Prelude.{◌≡◌, ℕ, List, slice_get, Some, None}
use Rattle.std.specs.List.{position}
use Rattle.std.specs.Str.{bytes_eq}
use Rattle.tomex_rvexec.specs.Run.{start_of}
use Rattle.tomex_rvexec.specs.Trace.{steps_from}
use Rattle.tomex_rvexec.specs.declared.step.Step.{Step}
use Rattle.tomex_config.specs.Configuration.{Configuration}
use Rattle.tomex_study.specs.Program.{Workload}
use Rattle.tomex_study.specs.Study.{DesignSpace, program_named}
use Rattle.tomex_find.specs.RowName.{IsNoRow, row_named}
use Rattle.tomex_find.specs.declared.row_name.RowError.TheVariants as rows
use Rattle.tomex_find.specs.declared.row_name.RowName.{RowName}
use Rattle.tomex_find.specs.declared.row_name.RowName.TheVariants as names
use Rattle.tomex_command.specs.declared.commands.chosen.ChosenRun.{ChosenRun}
use Rattle.tomex_command.specs.declared.failure.Failure.{Failure}
use Rattle.tomex_command.specs.declared.failure.Failure.TheVariants.{NoSuchChoice, NoSuchRow, SeveralRows}
use Rattle.tomex_command.specs.declared.failure.Failure.TheVariants.{NoSuchProgram, Memory}
use Rattle.tomex_command_line.specs.declared.line.config.ConfigName.{ConfigName}
use Rattle.tomex_command_line.specs.declared.line.config.ConfigName.TheVariants.{Number, Choices}
use Rattle.tomex_command_line.specs.declared.line.one_run.OneRun.{OneRun}
use Rattle.tomex_streams.specs.Files.{Known}
use Rattle.tomex_command.specs.StudyFiles.{IsStudyIn, IsStudyWith}

-- a configuration with its number, a program, and the bytes of the program's file
pub record RunChoice : Type 0 where
  pub number : ℕ
  pub config : Configuration
  pub program : Workload
  pub file : List ℕ

-- the run that the code has chosen
abbrev pub choice_of : {A : Type 0} → ChosenRun A → RunChoice
choice_of c = record { number = c.number; config = c.config.now; program = c.program.now; file = c.file.now }

-- the steps of the program's run
abbrev pub steps_in : RunChoice → List Step
steps_in choice = steps_from choice.program.limit (start_of choice.program.image)

-- the name of a row, as the line has it
abbrev pub row_name : ConfigName → RowName
row_name (Number number) = names.Number number
row_name (Choices word) = names.Choices word

-- the file of the first program with this name; files are in the order of the programs
pub record IsFileOf (study : DesignSpace) (contents : List (List ℕ)) (name : List ℕ) (bytes : List ℕ) : Type 0 where
  pub place : ℕ
  pub place_is : position (λ p. bytes_eq p.name name) study.programs ≡ Some place
  pub bytes_are : slice_get contents place ≡ Some bytes

-- the configuration and the program of these names, and the program's file
pub record IsChosen (study : DesignSpace) (contents : List (List ℕ)) (run : OneRun) (choice : RunChoice)
    : Type 0 where
  pub row_is : row_named study (row_name run.config) ≡ Some choice.number
  pub config_is : slice_get study.rows choice.number ≡ Some choice.config
  pub program_is : program_named run.program.now study.programs ≡ Some choice.program
  pub of_program : IsFileOf study contents run.program.now choice.file

-- there is the configuration, and no program of that name
pub record IsWithoutProgram (study : DesignSpace) (run : OneRun) : Type 0 where
  pub number : ℕ
  pub row_is : row_named study (row_name run.config) ≡ Some number
  pub program_is : program_named run.program.now study.programs ≡ None

-- why a study has not both: the configuration is looked for first; memory may run out at any time
abbrev pub IsUnchosen : DesignSpace → OneRun → Failure → Type 0
IsUnchosen study run (NoSuchChoice choice) = IsNoRow study (row_name run.config) (rows.NoSuchChoice choice)
IsUnchosen study run NoSuchRow = IsNoRow study (row_name run.config) rows.NoSuchRow
IsUnchosen study run (SeveralRows n) = IsNoRow study (row_name run.config) (rows.SeveralRows n)
IsUnchosen study run NoSuchProgram = IsWithoutProgram study run
IsUnchosen study run Memory = Unit {0}
IsUnchosen study run _ = ⊥

-- the study of the run's files has the configuration and the program, and this holds of them
pub record IsOfRun (file : List ℕ → Known) (run : OneRun) (Holds : RunChoice → Type 0) : Type 0 where
  pub space : DesignSpace
  pub contents : List (List ℕ)
  pub of_files : IsStudyWith file run.study.now space contents
  pub choice : RunChoice
  pub chosen : IsChosen space contents run choice
  pub holds : Holds choice

-- it has not both, for this reason
abbrev pub IsUnchosenIn : (List ℕ → Known) → OneRun → Failure → Type 0
IsUnchosenIn file run failure =
    (space : DesignSpace) × IsStudyIn file run.study.now space × IsUnchosen space run failure
