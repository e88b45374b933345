-- The failure if a study has no such run, or a view shows nothing of it.
use Rattle.std.proofs.Common.{◌≡◌, ℕ, List, sym, subst}
use Rattle.tomex_study.specs.Study.{DesignSpace}
use Rattle.tomex_command.specs.Chosen.{IsOfRun, IsUnchosen}
use Rattle.tomex_command.specs.RunViews.{IsNotShown, IsRunViewFailure, run_of_view}
use Rattle.tomex_command.specs.StudyFiles.{IsStudyIn}
use Rattle.tomex_command.specs.declared.commands.run_view.RunView.{RunView}
use Rattle.tomex_command.specs.declared.failure.Failure.{Failure}
use Rattle.tomex_command.specs.declared.failure.Failure.TheVariants as failures
use Rattle.tomex_streams.specs.Files.{Known}

pub not_shown : (file : List ℕ → Known) (view : RunView) (failure : Failure)
    → IsOfRun file (run_of_view view) (λ choice. IsNotShown failure view choice) → IsRunViewFailure view file failure
not_shown file view failures.NoSymbols of = of
not_shown file view failures.NoSuchStep of = of
not_shown file view failures.PictureTooLarge of = of
not_shown file view failures.CyclePastEnd of = of
not_shown file view failures.Memory of = tt
not_shown file view failures.BadWindow of = absurd of.holds
not_shown file view (failures.Run refusal) of = absurd of.holds
not_shown file view (failures.Study error) of = absurd of.holds
not_shown file view failures.NoSuchRow of = absurd of.holds
not_shown file view (failures.SeveralRows n) of = absurd of.holds
not_shown file view failures.NoSuchProgram of = absurd of.holds
not_shown file view failures.TableTooLarge of = absurd of.holds
not_shown file view (failures.NoSuchChoice choice) of = absurd of.holds
not_shown file view failures.NoSuchRefusal of = absurd of.holds
not_shown file view (failures.CannotRead name) of = absurd of.holds
not_shown file view failures.CannotWrite of = absurd of.holds
not_shown file view failures.NoEnd of = absurd of.holds
not_shown file view failures.CodeOverwritten of = absurd of.holds
not_shown file view failures.NoRoom of = absurd of.holds
not_shown file view failures.OnTerminal of = absurd of.holds
not_shown file view failures.Worker of = absurd of.holds

module _ (file : List ℕ → Known) (view : RunView) (study : DesignSpace)
    (of_files : IsStudyIn file (run_of_view view).study.now study) where
  without_choice : (failure : Failure) → IsUnchosen study (run_of_view view) failure
      → IsRunViewFailure view file failure
  without_choice failures.NoSuchRow why = (study, of_files, why)
  without_choice (failures.SeveralRows n) why = (study, of_files, why)
  without_choice (failures.NoSuchChoice choice) why = (study, of_files, why)
  without_choice failures.NoSuchProgram why = (study, of_files, why)
  without_choice failures.Memory why = tt
  without_choice failures.NoSymbols why = absurd why
  without_choice failures.BadWindow why = absurd why
  without_choice (failures.Run refusal) why = absurd why
  without_choice (failures.Study error) why = absurd why
  without_choice failures.CyclePastEnd why = absurd why
  without_choice failures.NoSuchStep why = absurd why
  without_choice failures.PictureTooLarge why = absurd why
  without_choice failures.TableTooLarge why = absurd why
  without_choice failures.NoSuchRefusal why = absurd why
  without_choice (failures.CannotRead name) why = absurd why
  without_choice failures.CannotWrite why = absurd why
  without_choice failures.NoEnd why = absurd why
  without_choice failures.CodeOverwritten why = absurd why
  without_choice failures.NoRoom why = absurd why
  without_choice failures.OnTerminal why = absurd why
  without_choice failures.Worker why = absurd why

  pub unchosen : (failure same : Failure) → IsUnchosen study (run_of_view view) failure → same ≡ failure
      → IsRunViewFailure view file same
  unchosen failure same why is =
      subst (λ (f : Failure). IsRunViewFailure view file f) (sym is) (without_choice failure why)
