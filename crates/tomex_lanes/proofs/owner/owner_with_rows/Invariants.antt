use Rattle.std.proofs.Common.{◌≡◌, true}
use Rattle.crossbeam_deque.specs.Handles.{worker_flavor, worker_view}
use Rattle.tomex_lanes.specs.Rule.{known_list}
use Rattle.tomex_lanes.specs.Rows.{rows_of}
use Rattle.tomex_lanes.proofs.owner.owner_with_rows.Given as goal

abbrev pub invariant-loop-row : goal.invariant-loop-row
invariant-loop-row g l = (worker_flavor l.owner ≡ 0)
    × (worker_view l.owner ≡ known_list true (rows_of l.workers l.worker l.row))
