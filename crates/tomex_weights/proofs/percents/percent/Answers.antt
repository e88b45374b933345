-- No percentage is above 100 at first.
use Rattle.std.proofs.lemmas.Grind.{common_steps}
use Rattle.std.proofs.Common.{arith, ◌≤◌}
use Rattle.tomex_pareto.proofs.Factors.{least_few}
use Rattle.tomex_weights.specs.Percent.{percent_for}
use Rattle.tomex_weights.proofs.percents.percent.Goals as goal

pub loop-rival-init : goal.loop-rival-init
loop-rival-init g c =
    let few = least_few (percent_for c.args.surveyed.now c.args.row) c.rows-rival-items.result.now in
    record { least = omega (arith, few); few = (let z : 100 ≤ 100 = omega arith in z) }

pub loop-rival-preserved : goal.loop-rival-preserved
loop-rival-preserved = grind (arith, common_steps)
