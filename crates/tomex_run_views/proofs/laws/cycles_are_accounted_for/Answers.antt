-- The visits of a run are those that its waits give.
use Rattle.tomex_run_views.proofs.Cycles.{cycles_are_waits, cycles_with_drain}
use Rattle.tomex_run_views.proofs.laws.cycles_are_accounted_for.Goals as goal

pub returns-clause-waits : goal.returns-clause-waits
returns-clause-waits c = cycles_are_waits

pub returns-clause-total : goal.returns-clause-total
returns-clause-total c = cycles_with_drain
