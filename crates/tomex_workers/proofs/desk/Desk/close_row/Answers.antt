-- The row is there; looking and finishing continue from the seat before.
use Rattle.std.proofs.Common.{sym, subst}
use Rattle.tomex_board.specs.Known.{Known}
use Rattle.tomex_workers.specs.Seats.{Continues}
use Rattle.tomex_workers.proofs.Closing.{continues_itself, continues_on, row_there}
use Rattle.tomex_workers.proofs.desk.Desk.close_row.Goals as goal
use Rattle.tomex_workers.proofs.desk.Desk.close_row.Goals.{in-Some+in-Some-look+else-bound-made}
use Rattle.tomex_workers.proofs.desk.Desk.close_row.Goals.{in-Some+in_default-look, in_default}

pub known_row-known-requires-clause-row : goal.known_row-known-requires-clause-row
known_row-known-requires-clause-row g c =
    row_there c.args.self.now.study.now _ _ c.args.row c.keeps_limits.ensures c.requires.plan c.requires.row

pub returns-clause-seat : goal.returns-clause-seat
returns-clause-seat g c = continues_on c.args.seat.now c.match-known.seat c.finish.new.seat
    (elim c.match-known.branch [
      | in-Some+in-Some-look+else-bound-made w ↦ subst (Continues c.args.seat.now) (sym w.seat-is)
          (record { board = w.look.ensures.board; share = w.look.ensures.share; grown = w.look.ensures.grown })
      | in-Some+in_default-look w ↦ subst (Continues c.args.seat.now) (sym w.seat-is)
          (record { board = w.look.ensures.board; share = w.look.ensures.share; grown = w.look.ensures.grown })
      | in_default w ↦ subst (Continues c.args.seat.now) (sym w.seat-is) (continues_itself c.args.seat.now)
    ])
    (record { board = c.finish.ensures.board; share = c.finish.ensures.share; grown = c.finish.ensures.grown })
