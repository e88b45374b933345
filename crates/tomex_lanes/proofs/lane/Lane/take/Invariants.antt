-- Steals leave the lane unchanged.
use Rattle.std.proofs.Common.{◌≡◌}
use Rattle.tomex_lanes.proofs.lane.Lane.take.Given as goal

abbrev pub invariant-loop-k : goal.invariant-loop-k
invariant-loop-k g l =
    (l.self-inside.worker ≡ l.initial.self-inside.worker)
    × (l.self-inside.count ≡ l.initial.self-inside.count)
    × (l.self-inside.rows ≡ l.initial.self-inside.rows)
    × (l.self-inside.own ≡ l.initial.self-inside.own)
    × (l.self-inside.others.items ≡ l.initial.self-inside.others.items)
