-- What was kept is written in order.
use Rattle.tomex_functions.proofs.Reports.{report_if_made}
use Rattle.tomex_functions.proofs.report.text_of.Goals as goal

pub returns : goal.returns
returns g c =
    report_if_made c.args.named c.as_slice.result.now c.in_ok-changes.changes.items c.args.drain.now c.args.total.now
    c.text_of_changes.result c.in_ok-changes.ensures.ordered c.in_ok-changes.ensures.moved
    c.in_ok-changes.ensures.order c.as_slice.ensures.value c.text_of_changes.ensures
