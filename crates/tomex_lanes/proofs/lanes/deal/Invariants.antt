use Rattle.std.proofs.Common.{◌≡◌, ◌-◌}
use Rattle.tomex_lanes.proofs.Dealing.{connected, lanes_with}
use Rattle.tomex_lanes.proofs.lanes.deal.Given as goal

abbrev pub invariant-loop-worker : goal.invariant-loop-worker
invariant-loop-worker g l = l.lanes.items ≡ lanes_with l.workers l.count (λ i. 0) l.worker

abbrev pub invariant-loop-to : goal.invariant-loop-to
invariant-loop-to g l = l.lanes.items ≡ lanes_with l.workers l.count (connected l.workers l.to 0) l.workers

abbrev pub invariant-loop-step : goal.invariant-loop-step
invariant-loop-step g l = l.lanes.items ≡ lanes_with l.workers l.count (connected l.workers l.to (l.step - 1)) l.workers
