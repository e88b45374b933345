use Rattle.std.proofs.Common.{◌≡◌}
use Rattle.tomex_lanes.specs.Rows.{rows_of}
use Rattle.tomex_lanes.proofs.lane.rows_of.Given as goal

abbrev pub invariant-loop-row : goal.invariant-loop-row
invariant-loop-row g l = l.rows.items ≡ rows_of l.workers l.worker l.row
