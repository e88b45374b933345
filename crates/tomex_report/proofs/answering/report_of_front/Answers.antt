-- The front's rows are rows of the study.
use Rattle.tomex_study.proofs.StudyFronts.{study_rows}
use Rattle.tomex_report.proofs.answering.report_of_front.Goals as goal

pub replay-requires-clause-rows : goal.replay-requires-clause-rows
replay-requires-clause-rows g c = rw c.requires (λ κs within. study_rows c.args.study.now c.keeps_limits.ensures)
