-- One more end is moved.
use Rattle.std.proofs.lemmas.Grind.{common_steps}
use Rattle.std.proofs.Common.{◌+◌, get_or, arith}
use Rattle.std.proofs.lemmas.List.{get_or_default}
use Rattle.std.proofs.lemmas.List.Edits.{map_over_more}
use Rattle.tomex_reservations.proofs.free_stations.Stations.shift.Goals as goal

pub loop-end-preserved : goal.loop-end-preserved
loop-end-preserved c =
    let x = get_or c.loop-end.end-items c.loop-end.end-index 0 in
    map_over_more (λ e. e + c.args.by) c.args.self.now.ends c.loop-end.end-items c.loop-end.end-index x (omega arith)
    c.loop-end.invariant (get_or_default c.loop-end.end-items c.loop-end.end-index 0 x (omega arith))

pub returns : goal.returns
returns = grind (arith, common_steps)
