-- The totals stay down to where the plateaus reach.
use Rattle.std.proofs.Common.{arith, subst, List}
use Rattle.tomex_study.specs.Program.{Workload}
use Rattle.tomex_plateaus.specs.Knowledge.{AreTotalsFrom}
use Rattle.tomex_choices.proofs.AskedTotals.{asked_down}
use Rattle.tomex_choices.proofs.asking.totals_down.Goals as goal

pub returns-clause-totals : goal.returns-clause-totals
returns-clause-totals g c =
    asked_down c.args.knowledge.now.programs c.args.config.now c.with_count-asked.result c.args.part c.args.number
    c.reach.result c.min-low.result c.in_ok-totals.totals c.keeps_limits.ensures c.with_count-asked.ensures
    c.in_ok-totals.ensures.totals
    (subst (λ (ps : List Workload). AreTotalsFrom ps c.with_count-asked.result c.args.part c.reach.result)
    c.in_ok-totals.ensures.programs c.reach.ensures)
    (λ n above below. omega (arith, c.min-low.ensures, c.from.ensures))

pub returns-clause-low : goal.returns-clause-low
returns-clause-low g c = omega (arith, c.min-low.ensures, c.from.ensures)
