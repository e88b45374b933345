-- After the last row those that stayed are the front.
use Rattle.std.proofs.Common.{arith}
use Rattle.std.proofs.lemmas.Grind.{common_steps}
use Rattle.tomex_pareto.proofs.Passes.{passed}
use Rattle.tomex_pareto.proofs.fronts.front.Goals as goal

pub returns : goal.returns
returns g c = let e = passed c.args.rows.items c.sort_rows.new.rows.items c.requires c.sort_rows.ensures.moved
    c.sort_rows.ensures.order in grind (arith, common_steps)

pub loop-row-preserved : goal.loop-row-preserved
loop-row-preserved = grind (arith, common_steps)
