use Rattle.std.proofs.Common.{◌≡◌, slice_index}
use Rattle.tomex_board.specs.Bands.{floors_of}
use Rattle.tomex_board.specs.Views.{Grows}
use Rattle.tomex_board.specs.Looking.{IsLeastSoFar, SeesEach}
use Rattle.tomex_board.proofs.board.Board.look.Given as goal

abbrev pub invariant-loop-k : goal.invariant-loop-k
invariant-loop-k g l = let J = g.J.Plan in
    (l.seat.board ≡ l.initial.seat.board)
    × (l.seat.view.hand ≡ l.initial.seat.view.hand)
    × (l.seat.view.share ≡ l.initial.seat.view.share)
    × Grows l.initial.seat.view l.seat.view
    × SeesEach (floors_of J.costs) (slice_index J.costs l.i) l.k l.initial.seat.view l.seat.view
    × IsLeastSoFar J.costs J.cycles (floors_of J.costs) (slice_index J.costs l.i) l.k l.seat.view l.least
