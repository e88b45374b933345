-- The lane of a turn adds the finish that its byte is waited for.
use Rattle.std.proofs.Common.{◌≡◌, ◌+◌, suc, arith}
use Rattle.tomex_floor.proofs.accesses.Word.raise_to.Goals as goal

pub loop-lane-preserved : goal.loop-lane-preserved
loop-lane-preserved c = λ n l.
    let next : c.loop-lane.lane + 1 ≡ suc c.loop-lane.lane = omega arith in
    rw (next, ← c.loop-lane.invariant n l) (c.raise_byte.ensures n l)
