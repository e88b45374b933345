-- The word that is found is compared with the least so far.
use Rattle.std.proofs.Common.{arith, slice_index}
use Rattle.tomex_board.specs.Bands.{floors_of}
use Rattle.tomex_board.proofs.Looks.{adds, finds, stands_out}
use Rattle.tomex_board.proofs.board.Board.least_with.Goals as goal

pub returns-then-found-least-clause-seen : goal.returns-then-found-least-clause-seen
returns-then-found-least-clause-seen g c v t = let J = g.J.Plan in
    adds J.costs J.cycles (floors_of J.costs) (slice_index J.costs c.args.i) c.args.k v c.args.seat.now.view
    c.look_at-found.new.seat.view c.look_at-found.result c.requires.judges c.look_at-found.ensures.seen t

pub returns-then-found-least-clause-so_far : goal.returns-then-found-least-clause-so_far
returns-then-found-least-clause-so_far g c = let J = g.J.Plan in
    finds J.costs J.cycles (floors_of J.costs) (slice_index J.costs c.args.i) c.args.k c.args.seat.now.view
    c.look_at-found.new.seat.view c.args.least c.look_at-found.result c.requires.judges (omega arith)
    c.look_at-found.ensures.seen c.requires.so_far

pub returns-else-found-least-clause-seen : goal.returns-else-found-least-clause-seen
returns-else-found-least-clause-seen g c v t = let J = g.J.Plan in
    adds J.costs J.cycles (floors_of J.costs) (slice_index J.costs c.args.i) c.args.k v c.args.seat.now.view
    c.look_at-found.new.seat.view c.look_at-found.result c.requires.judges c.look_at-found.ensures.seen t

pub returns-else-found-least-clause-so_far : goal.returns-else-found-least-clause-so_far
returns-else-found-least-clause-so_far g c = let J = g.J.Plan in
    stands_out J.costs J.cycles (floors_of J.costs) (slice_index J.costs c.args.i) c.args.k c.args.seat.now.view
    c.look_at-found.new.seat.view c.args.least c.look_at-found.result c.requires.judges (omega arith)
    c.look_at-found.ensures.seen c.requires.so_far
