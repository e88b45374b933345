-- The failure for the refusal of a view.
use Rattle.std.proofs.Common.{◌≡◌, sym, subst, inr, ℕ, List}
use Rattle.tomex_views.specs.StudyViews.{IsViewRefusal}
use Rattle.tomex_views.specs.declared.study_view.StudyView.{StudyView}
use Rattle.tomex_views.specs.declared.view_error.ViewError.{ViewError}
use Rattle.tomex_views.specs.declared.view_error.ViewError.TheVariants.{Study, NoSuchRow, NoSuchProgram, TooLarge}
use Rattle.tomex_views.specs.declared.view_error.ViewError.TheVariants.{NoSuchChoice, SeveralRows, Memory}
use Rattle.tomex_command.specs.declared.failure.Failure.{Failure}
use Rattle.tomex_streams.specs.Files.{Known}
use Rattle.tomex_command.specs.Statuses.{failure_of_view}
use Rattle.tomex_command.specs.StudyFiles.{AreSources}
use Rattle.tomex_command.specs.ViewLines.{IsViewFailure}

refused : (view : StudyView) (file : List ℕ → Known) (name bytes : List ℕ) (contents : List (List ℕ))
    (error : ViewError) → AreSources file name bytes contents → IsViewRefusal view bytes contents error
    → IsViewFailure view file name (failure_of_view error)
refused view file name bytes contents (Study error) sources refusal =
    λ other. inr (record { bytes = bytes; contents = contents; sources = sources; refused = refusal })
refused view file name bytes contents NoSuchRow sources refusal =
    record { bytes = bytes; contents = contents; sources = sources; without = refusal }
refused view file name bytes contents (NoSuchChoice choice) sources refusal =
    record { bytes = bytes; contents = contents; sources = sources; without = refusal }
refused view file name bytes contents (SeveralRows n) sources refusal =
    record { bytes = bytes; contents = contents; sources = sources; without = refusal }
refused view file name bytes contents NoSuchProgram sources refusal =
    record { bytes = bytes; contents = contents; sources = sources; without = refusal }
refused view file name bytes contents TooLarge sources refusal =
    record { bytes = bytes; contents = contents; sources = sources; without = refusal }
refused view file name bytes contents Memory sources refusal = tt

pub view_refused : (view : StudyView) (file : List ℕ → Known) (name bytes : List ℕ) (contents : List (List ℕ))
    (error : ViewError) (failure : Failure) → AreSources file name bytes contents
    → IsViewRefusal view bytes contents error → failure ≡ failure_of_view error → IsViewFailure view file name failure
view_refused view file name bytes contents error failure sources refusal is =
    subst (λ (f : Failure). IsViewFailure view file name f) (sym is)
    (refused view file name bytes contents error sources refusal)
