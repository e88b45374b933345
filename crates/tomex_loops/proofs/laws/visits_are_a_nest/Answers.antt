-- A visit ends only after all that began within it.
use Rattle.tomex_loops.proofs.VisitNest.{visits_are_a_nest}
use Rattle.tomex_loops.proofs.laws.visits_are_a_nest.Goals as goal

pub returns : goal.returns
returns c = visits_are_a_nest
