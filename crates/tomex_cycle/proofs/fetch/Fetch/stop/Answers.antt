use Rattle.tomex_cycle.proofs.Words.{rules}
use Rattle.tomex_cycle.proofs.fetch.Fetch.stop.Goals as goal

pub returns-in-Stopped : goal.returns-in-Stopped
returns-in-Stopped c = search rules fits 100
