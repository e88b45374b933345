use Rattle.std.proofs.Common.{rules}
use Rattle.tomex_lanes.proofs.Steps.{begins}
use Rattle.tomex_lanes.proofs.Dealing.{rows_of-here, rows_of-else}
use Rattle.tomex_lanes.proofs.owner.owner_with_rows.Goals as goal
use Rattle.tomex_lanes.proofs.owner.owner_with_rows.Goals.{then-row-workers+in_ok-add, else-row-workers}

pub fifo_as-requires : goal.fifo_as-requires
fifo_as-requires g c = begins

pub loop-row-preserved : goal.loop-row-preserved
loop-row-preserved g c =
    elim c.if-row-workers.branch [
      | then-row-workers+in_ok-add w ↦ let more =
          rows_of-here c.args.workers c.args.worker c.loop-row.row w.if-row-workers.true in search rules
      | else-row-workers w ↦ let same =
          rows_of-else c.args.workers c.args.worker c.loop-row.row w.if-row-workers.false in search rules
    ]
