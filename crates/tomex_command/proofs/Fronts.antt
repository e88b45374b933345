-- The failure for the refusal of a front report.
use Rattle.std.proofs.Common.{◌≡◌, sym, subst, refl, inr, ℕ, List}
use Rattle.tomex_sweep.specs.declared.outcome.SweepError.TheVariants as sweeps
use Rattle.tomex_report.specs.Answer.{IsAnswerRefusal}
use Rattle.tomex_report.specs.declared.answer_error.AnswerError.{AnswerError}
use Rattle.tomex_report.specs.declared.answer_error.AnswerError.TheVariants as answers
use Rattle.tomex_command.specs.declared.failure.Failure.{Failure}
use Rattle.tomex_streams.specs.Files.{Known}
use Rattle.tomex_command.specs.FrontLines.{IsAllFailure, IsExploreFailure}
use Rattle.tomex_command.specs.Statuses.{failure_of_answer}
use Rattle.tomex_command.specs.StudyFiles.{AreSources}

explored : (file : List ℕ → Known) (name bytes : List ℕ) (contents : List (List ℕ)) (error : AnswerError)
    → AreSources file name bytes contents → IsAnswerRefusal bytes contents error
    → IsExploreFailure file name (failure_of_answer error)
explored file name bytes contents (answers.Study error) sources refusal =
    λ other. inr (record { bytes = bytes; contents = contents; sources = sources; refused = refusal })
explored file name bytes contents (answers.Sweep sweeps.Memory) sources refusal = tt
explored file name bytes contents (answers.Sweep sweeps.Worker) sources refusal =
    (refusal.0, record { bytes = bytes; contents = contents; sources = sources; stands = refusal.1 })

pub explore_refused : (file : List ℕ → Known) (name bytes : List ℕ) (contents : List (List ℕ)) (error : AnswerError)
    (failure : Failure)
    → AreSources file name bytes contents → IsAnswerRefusal bytes contents error → failure ≡ failure_of_answer error
    → IsExploreFailure file name failure
explore_refused file name bytes contents error failure sources refusal is =
    subst (λ (f : Failure). IsExploreFailure file name f) (sym is)
    (explored file name bytes contents error sources refusal)

ran : (file : List ℕ → Known) (name bytes : List ℕ) (contents : List (List ℕ)) (error : AnswerError)
    → AreSources file name bytes contents → IsAnswerRefusal bytes contents error
    → (error ≡ answers.Sweep sweeps.Worker → ⊥) → IsAllFailure file name (failure_of_answer error)
ran file name bytes contents (answers.Study error) sources refusal no_worker =
    λ other. inr (record { bytes = bytes; contents = contents; sources = sources; refused = refusal })
ran file name bytes contents (answers.Sweep sweeps.Memory) sources refusal no_worker = tt
ran file name bytes contents (answers.Sweep sweeps.Worker) sources refusal no_worker = absurd (no_worker refl)

pub all_refused : (file : List ℕ → Known) (name bytes : List ℕ) (contents : List (List ℕ)) (error : AnswerError)
    (failure : Failure)
    → AreSources file name bytes contents → IsAnswerRefusal bytes contents error
    → (error ≡ answers.Sweep sweeps.Worker → ⊥) → failure ≡ failure_of_answer error → IsAllFailure file name failure
all_refused file name bytes contents error failure sources refusal no_worker is =
    subst (λ (f : Failure). IsAllFailure file name f) (sym is)
    (ran file name bytes contents error sources refusal no_worker)
