use Rattle.std.proofs.Common.{rules, arith}
use Rattle.std.proofs.lemmas.Grind.{common_steps}
use Rattle.tomex_lanes.proofs.Dealing.{rows_of-here, rows_of-else}
use Rattle.tomex_lanes.proofs.lane.rows_of.Goals as goal
use Rattle.tomex_lanes.proofs.lane.rows_of.Goals.{then-row-workers+in_ok-push, else-row-workers}

pub loop-row-preserved : goal.loop-row-preserved
loop-row-preserved g c =
    elim c.if-row-workers.branch [
      | then-row-workers+in_ok-push w ↦ let more =
          rows_of-here c.args.workers c.args.worker c.loop-row.row w.if-row-workers.true in search rules
      | else-row-workers w ↦ let same =
          rows_of-else c.args.workers c.args.worker c.loop-row.row w.if-row-workers.false in search rules
    ]

pub loop-row-init : goal.loop-row-init
loop-row-init g c = search rules fits 100

pub returns : goal.returns
returns g c = grind (arith, common_steps)
