-- The ends so far are moved, the rest is as before.
use Rattle.std.proofs.Common.{◌≡◌, ◌+◌, ◌++◌, map, take, drop}
use Rattle.tomex_states.proofs.shift.shift_latest.Given as goal

abbrev pub invariant-loop-end : goal.invariant-loop-end
invariant-loop-end l =
    l.end-items ≡ map (λ e. e + l.by) (take l.end-index l.fn.latest.ends) ++ drop l.end-index l.fn.latest.ends
