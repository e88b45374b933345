-- The known or learnt totals are those of the row's configuration.
use Rattle.std.proofs.Common.{arith, ◌≡◌, ◌<◌, ◌∙◌, ap, sym, subst, take, List, length}
use Rattle.std.proofs.lemmas.Grind.{common_steps}
use Rattle.tomex_config.specs.Configuration.{Configuration}
use Rattle.tomex_study.specs.Program.{Workload}
use Rattle.tomex_study.specs.Cycles.{totals_on}
use Rattle.tomex_workers.proofs.Closing.{continues_itself, row_read, row_there, totals_there}
use Rattle.tomex_workers.proofs.desk.Desk.run_row.Goals as goal

pub bounds-rows-row : goal.bounds-rows-row
bounds-rows-row g c =
    subst (λ (rs : List Configuration). c.args.row < length rs) (sym c.rows.ensures.value)
    (row_there c.args.self.now.study.now _ _ c.args.row c.keeps_limits.ensures c.requires.plan c.requires.row)

pub returns-in_err-totals-clause-seat : goal.returns-in_err-totals-clause-seat
returns-in_err-totals-clause-seat g c = continues_itself _

pub close_row-requires-clause-totals : goal.close_row-requires-clause-totals
close_row-requires-clause-totals g c =
    totals_there c.args.self.now.study.now c.args.row c.index-rows-row.result c.args.knowledge.now.programs
    c.in_ok-totals.totals c.requires.programs
    (row_read _ _ c.args.row c.index-rows-row.result c.rows.ensures.value
    (row_there c.args.self.now.study.now _ _ c.args.row c.keeps_limits.ensures c.requires.plan c.requires.row)
    c.index-rows-row.is) c.in_ok-totals.ensures.totals

pub offset_bounds-rows-row : goal.offset_bounds-rows-row
offset_bounds-rows-row = grind (arith, common_steps)
