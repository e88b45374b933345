-- Each row of the lane's list is noted.
use Rattle.tomex_workers.proofs.working.work.Goals as goal

pub new-requires-clause-noted : goal.new-requires-clause-noted
new-requires-clause-noted g c = rw c.into_rows.ensures.value c.in_ok-try_all.ensures.not_open
