-- The jump of a jump.
use Rattle.std.proofs.Common.{◌∙◌, ◌<◌, ◌≤◌, arith, get_or, length}
use Rattle.tomex_loops.proofs.forest.jump_from.Goals as goal

pub returns-then-first-second-clause-far : goal.returns-then-first-second-clause-far
returns-then-first-second-clause-far c = λ loops v are le.
    let near : get_or c.args.jumps.now c.args.head 0 ≤ c.args.head = are.low c.args.head c.requires.head in
    let inside : get_or c.args.jumps.now c.args.head 0 < length c.args.jumps.now = omega
    (arith, near, c.requires.head) in
    let far : get_or c.args.jumps.now (get_or c.args.jumps.now c.args.head 0) 0 ≤ get_or c.args.jumps.now c.args.head 0
    =
    are.low (get_or c.args.jumps.now c.args.head 0) inside in
    are.far c.args.head v c.requires.head (omega (arith, le, far))
    ∙ are.far (get_or c.args.jumps.now c.args.head 0) v inside le
