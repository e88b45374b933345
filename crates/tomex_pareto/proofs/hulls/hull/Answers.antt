-- The rows so far are, in the end, the rows of the hull.
use Rattle.std.proofs.Common.{arith}
use Rattle.std.proofs.lemmas.Grind.{common_steps}
use Rattle.tomex_pareto.specs.Hull.{hull_of}
use Rattle.tomex_pareto.proofs.hulls.hull.Goals as goal

pub returns : goal.returns
unfolding hull_of
returns g c = grind (arith, common_steps)

pub loop-row-preserved : goal.loop-row-preserved
loop-row-preserved = grind (arith, common_steps)
