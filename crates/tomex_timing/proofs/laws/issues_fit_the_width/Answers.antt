-- A step that issues passes the test for issue: it is no earlier than the one before, and has a slot.
use Rattle.tomex_timing.proofs.Width.{issues_in_order, issues_fit}
use Rattle.tomex_timing.proofs.laws.issues_fit_the_width.Goals as goal

pub returns : goal.returns
returns c = record { order = issues_in_order; few = issues_fit }
