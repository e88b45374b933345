-- The seat has what the parts so far had; the others have the rest.
use Rattle.std.proofs.Common.{length}
use Rattle.std.specs.Vec.Iter.{into_iter_items}
use Rattle.tomex_lanes.proofs.Settling.{IsJoined}
use Rattle.tomex_lanes.proofs.dealt.settle.Given as goal

abbrev pub invariant-loop-part : goal.invariant-loop-part
invariant-loop-part g l = IsJoined l.board (length g.J.Plan.costs) l.whole (into_iter_items l.part-iterator)
