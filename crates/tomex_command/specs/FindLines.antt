-- The result of a line that asks for the configurations with some choices.
use Rattle.std.specs.Prelude.{◌≡◌, ℕ, List, Some, map, string_bytes}
use Rattle.tomex_find.specs.Find.{IsFound, IsWithoutRow, first_unhad}
use Rattle.tomex_study.specs.Study.{DesignSpace}
use Rattle.tomex_command.specs.declared.failure.Failure.{Failure}
use Rattle.tomex_command.specs.declared.failure.Failure.TheVariants.{NoSuchChoice, NoSuchRow}
use Rattle.tomex_command_line.specs.declared.line.find.FindLine.{FindLine}
use Rattle.tomex_streams.specs.Files.{Known}
use Rattle.tomex_command.specs.StudyFiles.{IsStudyIn, IsStudyFailure}

-- the line's choices, as written
abbrev pub words_of : FindLine → List (List ℕ)
words_of line = map string_bytes line.choices.items

-- the study of the line's file has configurations with all choices, and the text is their table
pub record IsFindOf (file : List ℕ → Known) (line : FindLine) (text : List ℕ) : Type 0 where
  pub space : DesignSpace
  pub of_files : IsStudyIn file line.study.now space
  pub found : IsFound space (words_of line) text

-- none of its configurations has this choice, which is the first such one
pub record IsUnhad (file : List ℕ → Known) (line : FindLine) (choice : List ℕ) : Type 0 where
  pub space : DesignSpace
  pub of_files : IsStudyIn file line.study.now space
  pub first : first_unhad space (words_of line) ≡ Some choice

-- each choice is some configuration's, and none has all
pub record IsNowhere (file : List ℕ → Known) (line : FindLine) : Type 0 where
  pub space : DesignSpace
  pub of_files : IsStudyIn file line.study.now space
  pub without : IsWithoutRow space (words_of line)

-- when each failure comes: those of the study, then of each choice, then of all at once
abbrev pub IsFindFailure : (List ℕ → Known) → FindLine → Failure → Type 0
IsFindFailure file line (NoSuchChoice choice) = IsUnhad file line (string_bytes choice)
IsFindFailure file line NoSuchRow = IsNowhere file line
IsFindFailure file line failure = IsStudyFailure file line.study.now failure
