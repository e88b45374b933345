-- The exit statuses of failures.
use Rattle.std.specs.Prelude.{ℕ}
use Rattle.tomex_sweep.specs.declared.outcome.SweepError.TheVariants as sweeps
use Rattle.tomex_report.specs.declared.answer_error.AnswerError.{AnswerError}
use Rattle.tomex_report.specs.declared.answer_error.AnswerError.TheVariants as answers
use Rattle.tomex_views.specs.declared.view_error.ViewError.{ViewError}
use Rattle.tomex_views.specs.declared.view_error.ViewError.TheVariants as views
use Rattle.tomex_animate.specs.declared.animation_error.AnimationError.{AnimationError}
use Rattle.tomex_animate.specs.declared.animation_error.AnimationError.TheVariants as animations
use Rattle.tomex_cut.specs.declared.error.CutError.{CutError}
use Rattle.tomex_cut.specs.declared.error.CutError.TheVariants as cuts
use Rattle.tomex_image.specs.declared.error.ImageError.{ImageError}
use Rattle.tomex_image.specs.declared.error.ImageError.TheVariants as images
use Rattle.tomex_find.specs.declared.finding.FindError.{FindError}
use Rattle.tomex_find.specs.declared.finding.FindError.TheVariants as searches
use Rattle.tomex_find.specs.declared.row_name.RowError.{RowError}
use Rattle.tomex_find.specs.declared.row_name.RowError.TheVariants as rows
use Rattle.tomex_functions.specs.declared.functions_error.FunctionsError.{FunctionsError}
use Rattle.tomex_functions.specs.declared.functions_error.FunctionsError.TheVariants as functions
use Rattle.tomex_samples.specs.declared.error.PartsError.{PartsError}
use Rattle.tomex_samples.specs.declared.error.PartsError.TheVariants as parts
use Rattle.tomex_refusals.specs.declared.explaining.ExplainError.{ExplainError}
use Rattle.tomex_refusals.specs.declared.explaining.ExplainError.TheVariants as explanations
use Rattle.tomex_run_views.specs.declared.excerpt_error.ExcerptError.{ExcerptError}
use Rattle.tomex_run_views.specs.declared.excerpt_error.ExcerptError.TheVariants as excerpts
use Rattle.tomex_run_views.specs.declared.picture_error.PictureError.{PictureError}
use Rattle.tomex_run_views.specs.declared.picture_error.PictureError.TheVariants as pictures
use Rattle.tomex_document.specs.declared.error.StudyError.TheVariants as studies
use Rattle.tomex_command.specs.declared.run.RunRefusal.TheVariants as refusals
use Rattle.tomex_command.specs.declared.failure.Failure.{Failure}
use Rattle.tomex_command.specs.declared.failure.Failure.TheVariants.{BadWindow, Run, Study, NoSuchRow}
use Rattle.tomex_command.specs.declared.failure.Failure.TheVariants.{NoSuchProgram, NoSymbols, CyclePastEnd, NoSuchStep}
use Rattle.tomex_command.specs.declared.failure.Failure.TheVariants.{NoEnd, CodeOverwritten, NoRoom, OnTerminal}
use Rattle.tomex_command.specs.declared.failure.Failure.TheVariants.{PictureTooLarge, TableTooLarge, CannotRead}
use Rattle.tomex_command.specs.declared.failure.Failure.TheVariants.{CannotWrite, NoSuchChoice, SeveralRows}
use Rattle.tomex_command.specs.declared.failure.Failure.TheVariants.{NoSuchRefusal, Memory, Worker}

-- 1 for input that is refused, 3 if memory, a thread, a file or a device is refused
abbrev pub status_of_failure : Failure → ℕ
status_of_failure BadWindow = 1
status_of_failure (Run refusals.Memory) = 3
status_of_failure (Run refusal) = 1
status_of_failure (Study studies.Memory) = 3
status_of_failure (Study error) = 1
status_of_failure NoSuchRow = 1
status_of_failure (SeveralRows n) = 1
status_of_failure NoSuchProgram = 1
status_of_failure NoSymbols = 1
status_of_failure CyclePastEnd = 1
status_of_failure NoSuchStep = 1
status_of_failure NoEnd = 1
status_of_failure CodeOverwritten = 1
status_of_failure NoRoom = 1
status_of_failure PictureTooLarge = 1
status_of_failure TableTooLarge = 1
status_of_failure (NoSuchChoice choice) = 1
status_of_failure NoSuchRefusal = 1
status_of_failure (CannotRead name) = 3
status_of_failure CannotWrite = 3
status_of_failure OnTerminal = 3
status_of_failure Memory = 3
status_of_failure Worker = 3

-- the failure that a refused image becomes
abbrev pub failure_of_image : ImageError → Failure
failure_of_image images.Memory = Memory
failure_of_image error = Run (refusals.Image error)

-- the failure that a refused part of a run becomes
abbrev pub failure_of_cut : CutError → Failure
failure_of_cut (cuts.Fault fault) = Run (refusals.Fault fault)
failure_of_cut cuts.NoSuchStep = NoSuchStep
failure_of_cut cuts.NoEnd = NoEnd
failure_of_cut cuts.Overwritten = CodeOverwritten
failure_of_cut cuts.NoRoom = NoRoom
failure_of_cut cuts.Memory = Memory

-- the failure if no parts stand for a run
abbrev pub failure_of_parts : PartsError → Failure
failure_of_parts (parts.Fault fault) = Run (refusals.Fault fault)
failure_of_parts parts.TooLong = Run refusals.TooLong
failure_of_parts parts.NoSuchStep = NoSuchStep
failure_of_parts parts.NoEnd = NoEnd
failure_of_parts parts.Memory = Memory

-- the failure that a refused answer becomes
abbrev pub failure_of_answer : AnswerError → Failure
failure_of_answer (answers.Study error) = Study error
failure_of_answer (answers.Sweep sweeps.Memory) = Memory
failure_of_answer (answers.Sweep sweeps.Worker) = Worker

-- the failure that a refused view becomes
abbrev pub failure_of_view : ViewError → Failure
failure_of_view (views.Study error) = Study error
failure_of_view views.NoSuchRow = NoSuchRow
failure_of_view (views.NoSuchChoice choice) = NoSuchChoice choice
failure_of_view (views.SeveralRows n) = SeveralRows n
failure_of_view views.NoSuchProgram = NoSuchProgram
failure_of_view views.TooLarge = TableTooLarge
failure_of_view views.Memory = Memory

-- the failure that a refused picture becomes
abbrev pub failure_of_picture : PictureError → Failure
failure_of_picture pictures.NoSuchStep = NoSuchStep
failure_of_picture pictures.TooLarge = PictureTooLarge
failure_of_picture pictures.Memory = Memory

-- the failure if there is no excerpt
abbrev pub failure_of_excerpt : ExcerptError → Failure
failure_of_excerpt excerpts.NoSuchStep = NoSuchStep
failure_of_excerpt excerpts.Memory = Memory

-- the failure if there is no report by function
abbrev pub failure_of_functions : FunctionsError → Failure
failure_of_functions functions.NoSymbols = NoSymbols
failure_of_functions functions.Memory = Memory

-- the failure if no configuration has the choices
abbrev pub failure_of_search : FindError → Failure
failure_of_search (searches.NoSuchChoice choice) = NoSuchChoice choice
failure_of_search searches.NoSuchRow = NoSuchRow
failure_of_search searches.Memory = Memory

-- the failure if a name is that of no configuration
abbrev pub failure_of_row : RowError → Failure
failure_of_row (rows.NoSuchChoice choice) = NoSuchChoice choice
failure_of_row rows.NoSuchRow = NoSuchRow
failure_of_row (rows.SeveralRows n) = SeveralRows n
failure_of_row rows.Memory = Memory

-- the failure that a refused page of a run becomes
abbrev pub failure_of_animation : AnimationError → Failure
failure_of_animation animations.PastEnd = CyclePastEnd
failure_of_animation animations.Memory = Memory

-- the failure that a refused explanation becomes
abbrev pub failure_of_explanation : ExplainError → Failure
failure_of_explanation explanations.NoSuchRefusal = NoSuchRefusal
failure_of_explanation explanations.Memory = Memory
