use Rattle.tomex_cycle.proofs.Words.{rules}
use Rattle.tomex_cycle.proofs.inner.Inner.is_over.Goals as goal

pub returns-in-Stopped : goal.returns-in-Stopped
returns-in-Stopped g c = search rules fits 100
