-- What the links so far have together is small.
use Rattle.tomex_path_views.proofs.Sums.{room_so_far}
use Rattle.tomex_path_views.proofs.shares.whole_share.Goals as goal

pub add-requires-clause-links : goal.add-requires-clause-links
add-requires-clause-links c =
    rw c.loop-link.invariant (room_so_far c.args.path.now c.loop-link.link-index c.requires).links

pub add-requires-clause-waits : goal.add-requires-clause-waits
add-requires-clause-waits c =
    rw c.loop-link.invariant (room_so_far c.args.path.now c.loop-link.link-index c.requires).waits

pub add-requires-clause-cycles : goal.add-requires-clause-cycles
add-requires-clause-cycles c =
    rw c.loop-link.invariant (room_so_far c.args.path.now c.loop-link.link-index c.requires).cycles
