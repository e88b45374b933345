-- The front is the outcome's. Written out, so that a wrong body is refused soon.
use Rattle.std.proofs.Common.{◌∙◌}
use Rattle.tomex_report.proofs.answering.report_by_workers.Goals as goal

pub report_of_front-requires : goal.report_of_front-requires
report_of_front-requires g c =
    let front = c.as_slice.ensures.value ∙ c.in_ok-outcome.ensures.front in
    let bounds = c.type_bounds in
    (bounds.send-A, (bounds.sync-R, (bounds.sync-A, (bounds.frees-A-Allocator, front))))
