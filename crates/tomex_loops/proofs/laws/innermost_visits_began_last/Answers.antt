-- Of the visits that have begun the innermost one is under way, and those that began after it are over.
use Rattle.tomex_loops.proofs.Innermost.{innermost_visits_began_last}
use Rattle.tomex_loops.proofs.laws.innermost_visits_began_last.Goals as goal

pub returns : goal.returns
returns c = innermost_visits_began_last
