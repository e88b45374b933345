-- One more finish is moved.
use Rattle.std.proofs.Common.{◌+◌, get_or, arith}
use Rattle.std.proofs.lemmas.List.{get_or_default}
use Rattle.std.proofs.lemmas.List.Edits.{map_over_more}
use Rattle.tomex_states.proofs.state.Window.shift.Goals as goal

pub loop-finish-preserved : goal.loop-finish-preserved
loop-finish-preserved c =
    let x = get_or c.loop-finish.finish-items c.loop-finish.finish-index 0 in
    map_over_more (λ e. e + c.args.by) c.args.self.now.finishes c.loop-finish.finish-items c.loop-finish.finish-index x
    (omega arith) c.loop-finish.invariant
    (get_or_default c.loop-finish.finish-items c.loop-finish.finish-index 0 x (omega arith))
