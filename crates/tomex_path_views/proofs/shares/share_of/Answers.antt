-- What the links so far have together is small.
use Rattle.std.proofs.Common.{arith}
use Rattle.std.proofs.lemmas.Grind.{common_steps}
use Rattle.tomex_path_views.proofs.Sums.{room_with}
use Rattle.tomex_path_views.proofs.shares.share_of.Goals as goal

pub add-requires-clause-links : goal.add-requires-clause-links
add-requires-clause-links c =
    rw c.loop-link.invariant (room_with c.args.path.now c.loop-link.link-index c.args.reason c.requires).links

pub add-requires-clause-waits : goal.add-requires-clause-waits
add-requires-clause-waits c =
    rw c.loop-link.invariant (room_with c.args.path.now c.loop-link.link-index c.args.reason c.requires).waits

pub add-requires-clause-cycles : goal.add-requires-clause-cycles
add-requires-clause-cycles c =
    rw c.loop-link.invariant (room_with c.args.path.now c.loop-link.link-index c.args.reason c.requires).cycles

pub loop-link-preserved : goal.loop-link-preserved
loop-link-preserved = grind (arith, common_steps)
