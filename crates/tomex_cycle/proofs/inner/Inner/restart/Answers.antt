use Rattle.tomex_cycle.proofs.Words.{rules}
use Rattle.tomex_cycle.proofs.inner.Inner.restart.Goals as goal

pub returns-then-is_ok-clause-fresh : goal.returns-then-is_ok-clause-fresh
returns-then-is_ok-clause-fresh g c = search rules fits 100
