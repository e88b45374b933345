-- The failure if a study has not both builds, or they have no report.
use Rattle.std.proofs.Common.{◌≡◌, ℕ, List, Bor, subst, sym}
use Rattle.tomex_study.specs.Study.{DesignSpace}
use Rattle.tomex_command.specs.Chosen.{IsUnchosen, IsUnchosenIn}
use Rattle.tomex_command.specs.FunctionsLines.{AreUnreported, IsBuildUnchosen, IsFunctionsFailure, IsOfBuilds}
use Rattle.tomex_command.specs.FunctionsLines.{run_of_build}
use Rattle.tomex_command.specs.StudyFiles.{IsStudyIn}
use Rattle.tomex_command.specs.declared.failure.Failure.{Failure}
use Rattle.tomex_command.specs.declared.failure.Failure.TheVariants as failures
use Rattle.tomex_command_line.specs.declared.line.functions.FunctionsLine.{FunctionsLine}
use Rattle.tomex_streams.specs.Files.{Known}

pub unreported : (file : List ℕ → Known) (line : FunctionsLine) (failure : Failure)
    → IsOfBuilds file line (λ config old new. AreUnreported config old new failure)
    → IsFunctionsFailure file line failure
unreported file line failures.NoSymbols of = of
unreported file line failures.Memory of = tt
unreported file line failures.BadWindow of = absurd of.holds
unreported file line (failures.Run refusal) of = absurd of.holds
unreported file line (failures.Study error) of = absurd of.holds
unreported file line failures.NoSuchRow of = absurd of.holds
unreported file line (failures.SeveralRows n) of = absurd of.holds
unreported file line failures.NoSuchProgram of = absurd of.holds
unreported file line failures.CyclePastEnd of = absurd of.holds
unreported file line failures.NoSuchStep of = absurd of.holds
unreported file line failures.PictureTooLarge of = absurd of.holds
unreported file line failures.TableTooLarge of = absurd of.holds
unreported file line (failures.NoSuchChoice choice) of = absurd of.holds
unreported file line failures.NoSuchRefusal of = absurd of.holds
unreported file line (failures.CannotRead name) of = absurd of.holds
unreported file line failures.CannotWrite of = absurd of.holds
unreported file line failures.NoEnd of = absurd of.holds
unreported file line failures.CodeOverwritten of = absurd of.holds
unreported file line failures.NoRoom of = absurd of.holds
unreported file line failures.OnTerminal of = absurd of.holds
unreported file line failures.Worker of = absurd of.holds

-- a build that isn't chosen is the old one or the new one
module _ (file : List ℕ → Known) (line : FunctionsLine) (study : DesignSpace) (build : Bor (List ℕ))
    (of_files : IsStudyIn file line.study.now study)
    (which : (failure : Failure) → IsUnchosenIn file (run_of_build line build) failure
    → IsBuildUnchosen file line failure) where
  without : (failure : Failure) → IsUnchosen study (run_of_build line build) failure
      → IsFunctionsFailure file line failure
  without failures.NoSuchRow why = which failures.NoSuchRow (study, of_files, why)
  without (failures.SeveralRows n) why = which (failures.SeveralRows n) (study, of_files, why)
  without (failures.NoSuchChoice choice) why = which (failures.NoSuchChoice choice) (study, of_files, why)
  without failures.NoSuchProgram why = which failures.NoSuchProgram (study, of_files, why)
  without failures.Memory why = tt
  without failures.NoSymbols why = absurd why
  without failures.BadWindow why = absurd why
  without (failures.Run refusal) why = absurd why
  without (failures.Study error) why = absurd why
  without failures.CyclePastEnd why = absurd why
  without failures.NoSuchStep why = absurd why
  without failures.PictureTooLarge why = absurd why
  without failures.TableTooLarge why = absurd why
  without failures.NoSuchRefusal why = absurd why
  without (failures.CannotRead name) why = absurd why
  without failures.CannotWrite why = absurd why
  without failures.NoEnd why = absurd why
  without failures.CodeOverwritten why = absurd why
  without failures.NoRoom why = absurd why
  without failures.OnTerminal why = absurd why
  without failures.Worker why = absurd why

  pub unchosen : (failure same : Failure) → IsUnchosen study (run_of_build line build) failure → same ≡ failure
      → IsFunctionsFailure file line same
  unchosen failure same why is =
      subst (λ (f : Failure). IsFunctionsFailure file line f) (sym is) (without failure why)
