use Rattle.tomex_rvexec.proofs.FlowFollows.{follows_fetched, follows_once}
use Rattle.tomex_rvexec.proofs.laws.history_determines_the_next_step.Goals as goal

pub returns-clause-fetched : goal.returns-clause-fetched
returns-clause-fetched c = follows_fetched

pub returns-clause-once : goal.returns-clause-once
returns-clause-once c = follows_once
