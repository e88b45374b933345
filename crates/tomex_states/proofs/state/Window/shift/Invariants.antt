-- The finishes so far are moved, the rest is as before.
use Rattle.std.proofs.Common.{◌≡◌, ◌+◌, ◌++◌, map, take, drop}
use Rattle.tomex_states.proofs.state.Window.shift.Given as goal

abbrev pub invariant-loop-finish : goal.invariant-loop-finish
invariant-loop-finish l = l.finish-items
    ≡ map (λ e. e + l.by) (take l.finish-index l.fn.self.finishes) ++ drop l.finish-index l.fn.self.finishes
