use Rattle.std.proofs.Common.{ap}
use Rattle.tomex_board.specs.Known.{Known}
use Rattle.tomex_board.proofs.Ends.{count, lawful, noted, held, shut, closed}
use Rattle.tomex_board.proofs.board.Board.close.Goals as goal

pub returns-clause-count : goal.returns-clause-count
returns-clause-count g c = rw (c.read_marks.ensures, c.self.invariant.1)
    (count g.J.Plan.costs g.J.Plan.cycles _ _ _ _ c.close_with-closed.ensures.values.2)

pub returns-clause-lawful : goal.returns-clause-lawful
returns-clause-lawful g c = rw (c.read_marks.ensures, c.self.invariant.1)
    (lawful g.J.Plan.costs g.J.Plan.cycles _ _ _ _ c.close_with-closed.ensures.values.2)

pub returns-clause-noted : goal.returns-clause-noted
returns-clause-noted g c = rw (c.read_marks.ensures, c.self.invariant.1, ← ap (λ (k : Known). k.view) c.seat.view_is)
    (noted g.J.Plan.costs g.J.Plan.cycles _ _ _ _ c.close_with-closed.ensures.values.2)

pub returns-clause-shut : goal.returns-clause-shut
returns-clause-shut g c = rw (c.read_marks.ensures, c.self.invariant.1, ← ap (λ (k : Known). k.view) c.seat.view_is)
    (shut g.J.Plan.costs g.J.Plan.cycles _ _ _ _ c.close_with-closed.ensures.values.2)

pub returns-clause-hand : goal.returns-clause-hand
returns-clause-hand g c = rw (c.read_marks.ensures, c.self.invariant.1, ← ap (λ (k : Known). k.view) c.seat.view_is)
    (held g.J.Plan.costs g.J.Plan.cycles _ _ _ _ c.close_with-closed.ensures.values.2)

pub returns-clause-whole : goal.returns-clause-whole
returns-clause-whole g c = rw (c.read_marks.ensures, c.self.invariant.1, ← ap (λ (k : Known). k.view) c.seat.view_is)
    (closed g.J.Plan.costs g.J.Plan.cycles _ _ _ _ c.close_with-closed.ensures.values.2)
