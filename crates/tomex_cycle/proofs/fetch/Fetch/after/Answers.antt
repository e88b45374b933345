use Rattle.tomex_cycle.proofs.Words.{rules}
use Rattle.tomex_cycle.proofs.fetch.Fetch.after.Goals as goal

pub returns-in_default : goal.returns-in_default
returns-in_default c = search rules fits 100

pub returns-in-Jal : goal.returns-in-Jal
returns-in-Jal c = search rules fits 100
