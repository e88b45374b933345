-- The path is that of the program's run, and so are the times.
use Rattle.tomex_page.specs.Runs.{path_on}
use Rattle.tomex_page.proofs.runs.path_on.Goals as goal

pub returns-clause-path : goal.returns-clause-path
unfolding path_on
returns-clause-path g c = rw c.run.ensures.steps at c.path.ensures.exact

pub returns-clause-times : goal.returns-clause-times
returns-clause-times g c = rw c.run.ensures.steps at c.path.ensures.times

pub returns-clause-pairs : goal.returns-clause-pairs
returns-clause-pairs g c = rw c.run.ensures.steps at c.path.ensures.pairs

pub returns-clause-bound : goal.returns-clause-bound
returns-clause-bound g c = rw c.run.ensures.steps at c.path.ensures.bound
