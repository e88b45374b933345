-- The failure if no configuration of a study has the choices.
use Rattle.std.proofs.Common.{◌≡◌, ℕ, List, subst, sym}
use Rattle.tomex_find.specs.Find.{IsNotFound}
use Rattle.tomex_find.specs.declared.finding.FindError.{FindError}
use Rattle.tomex_find.specs.declared.finding.FindError.TheVariants.{NoSuchChoice, NoSuchRow, Memory}
use Rattle.tomex_study.specs.Study.{DesignSpace}
use Rattle.tomex_command.specs.FindLines.{IsFindFailure, words_of}
use Rattle.tomex_command.specs.Statuses.{failure_of_search}
use Rattle.tomex_command.specs.StudyFiles.{IsStudyIn}
use Rattle.tomex_command.specs.declared.failure.Failure.{Failure}
use Rattle.tomex_command_line.specs.declared.line.find.FindLine.{FindLine}
use Rattle.tomex_streams.specs.Files.{Known}

found : (file : List ℕ → Known) (line : FindLine) (space : DesignSpace) (error : FindError)
    → IsStudyIn file line.study.now space → IsNotFound space (words_of line) error
    → IsFindFailure file line (failure_of_search error)
found file line space (NoSuchChoice choice) of_files first =
    record { space = space; of_files = of_files; first = first }
found file line space NoSuchRow of_files without =
    record { space = space; of_files = of_files; without = without }
found file line space Memory of_files refused = tt

pub not_found : (file : List ℕ → Known) (line : FindLine) (space : DesignSpace) (error : FindError) (failure : Failure)
    → IsStudyIn file line.study.now space → IsNotFound space (words_of line) error
    → failure ≡ failure_of_search error → IsFindFailure file line failure
not_found file line space error failure of_files refused is =
    subst (λ (f : Failure). IsFindFailure file line f) (sym is) (found file line space error of_files refused)
