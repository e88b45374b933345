-- The result of a line that asks for the report of a study, by `all` or by `explore`.
use Rattle.std.specs.Prelude.{List, ℕ}
use Rattle.tomex_study.specs.Study.{DesignSpace}
use Rattle.tomex_report.specs.Answer.{IsAnswer}
use Rattle.tomex_command.specs.declared.failure.Failure.{Failure}
use Rattle.tomex_command.specs.declared.failure.Failure.TheVariants.{Worker}
use Rattle.tomex_streams.specs.Files.{Known}
use Rattle.tomex_command.specs.StudyFiles.{AreSources, IsStudyIn, IsStudyFailure}

-- the text is the report of the study with this name
pub record IsReportOf (file : List ℕ → Known) (name : List ℕ) (text : List ℕ) : Type 0 where
  pub bytes : List ℕ
  pub contents : List (List ℕ)
  pub sources : AreSources file name bytes contents
  pub reported : IsAnswer bytes contents text

-- the failures of an exploration: those of the study, and a refused thread if the study is fine
abbrev pub IsExploreFailure : (List ℕ → Known) → List ℕ → Failure → Type 0
IsExploreFailure file name Worker = (study : DesignSpace) × IsStudyIn file name study
IsExploreFailure file name failure = IsStudyFailure file name failure

-- the failures of `all`: those of the study, but no refused thread
abbrev pub IsAllFailure : (List ℕ → Known) → List ℕ → Failure → Type 0
IsAllFailure file name failure = IsStudyFailure file name failure
